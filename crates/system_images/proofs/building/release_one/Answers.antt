use Rattle.std.proofs.Common.{◌≡◌, true}
use Rattle.recovery_world.specs.declared.event.Outcome.TheVariants as outcome
use Rattle.system_images.proofs.BuildingLemmas.{releases_one}
use Rattle.system_images.proofs.building.release_one.Goals as goal
use Rattle.system_images.proofs.building.release_one.Goals.{in-Released, in_default}

pub returns : goal.returns
returns g c =
    releases_one g.P.Program.meaning c.from.result c.args.thread c.args.number c.in_ok-reply.reply c.new-out.result
    c.arrive.new.out c.match-matches.matches c.args.core.now c.arrive.new.core c.from.ensures
    (elim c.match-matches.branch as
    (λ _. c.match-matches.matches ≡ true → c.in_ok-reply.reply.outcome ≡ outcome.Released) [
      | in-Released w ↦ λ e. w.in-Released.is
      | in_default w ↦ λ e. absurd (let no = w.matches-is in cc)
    ])
    (elim c.match-matches.branch as
    (λ _. c.in_ok-reply.reply.outcome ≡ outcome.Released → c.match-matches.matches ≡ true) [
      | in-Released w ↦ λ e. w.matches-is
      | in_default w ↦ λ e. absurd (w.in_default.not-Released e)
    ])
    c.in_ok-reply.ensures.on
