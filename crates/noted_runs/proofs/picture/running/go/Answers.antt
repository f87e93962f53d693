use Rattle.std.proofs.Common.{◌≡◌, ◌∙◌, ap, sym, refl, rules, Err}
use Rattle.noted_runs.proofs.MovesNoted.{fed_so, released_so}
use Rattle.noted_runs.proofs.PicturePerformed.{noted_same, none_noted, same_stop}
use Rattle.noted_runs.proofs.picture.running.go.Goals as goal

pub returns-clause-gone : goal.returns-clause-gone
returns-clause-gone g c s are h =
    let y = c.perform_all.new.system in
    let noted = noted_same _ _ s c.args.events.now c.args.events.now c.in_ok-notes.notes y
    (ap g.P.Program.meaning (sym c.in_ok-notes.ensures.program)) refl
    (c.in_ok-notes.ensures.on s are (none_noted _ s c.args.system.now h)) in
    record {
      world = noted.world;
      noted = noted.noted;
      fed = c.saturating_sub.ensures
          ∙ fed_so (g.P.Program.meaning c.args.program.now) c.args.inputs.now s noted.world c.fed.result c.left.result
          are noted.stands.parts.sound c.fed.ensures (c.left.ensures s noted.world noted.stands.parts);
      epoch = c.epoch.ensures s noted.world noted.stands.parts;
      released = released_so noted.world c.released.result.now c.len.result c.len.ensures
          (c.released.ensures noted.world noted.stands.released);
    }

pub returns-in_err-notes-clause-limit : goal.returns-in_err-notes-clause-limit
returns-in_err-notes-clause-limit g c s are h limit e =
    let made : c.from_residual.result ≡ Err c.in_err-notes.field-0.0 = search rules in
    c.in_err-notes.ensures.limit s are (none_noted _ s c.args.system.now h) limit
    (same_stop c.from_residual.result c.in_err-notes.field-0.0 _ made e)
