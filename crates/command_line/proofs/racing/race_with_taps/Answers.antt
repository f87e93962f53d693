use Rattle.std.proofs.Common.{◌≡◌, ◌∙◌, ℕ, inl, inr, subst}
use Rattle.release_taps.specs.Mirrored.{IsMirroring}
use Rattle.release_taps.specs.Split.{behind_pairs, released_name}
use Rattle.job_top.proofs.Answered.{stays_orderly}
use Rattle.world_told.specs.Sent.{name_of, sent_to}
use Rattle.world_real.specs.Real.{real_ledger}
use Rattle.command_line.proofs.Named.{named-seats}
use Rattle.command_line.proofs.Runs.{not_created}
use Rattle.command_line.proofs.racing.race_with_taps.Goals as goal

pub returns-in-Ok-race_tapped-clause-mirrors : goal.returns-in-Ok-race_tapped-clause-mirrors
returns-in-Ok-race_tapped-clause-mirrors g c =
    let run = c.in-Ok-race_tapped.ensures in
    let rest = c.in-Ok-race_tapped.run'.rest in
    inr (record {
      count = run.seats ∙ c.in-Ok.ensures.count;
      named = named-seats (λ t. name_of t.file t.world.calls) c.args.words.now c.in-Ok.taps.items rest.seats.items
          run.labels c.in-Ok.ensures.named;
      mirrored = rest.mirrored;
      mirrors = subst (λ (n : ℕ). IsMirroring g.W.World.honest g.W.World.shows g.W.World.ledger
          (λ t. (t.faults ≡ 0) × (t.lacks ≡ 0)) (λ t. sent_to t.file t.world.calls) (λ t. t.faults) (λ t. t.lacks)
          (released_name n c.args.words.now) rest.mirrored rest.world rest.seats.items) c.in-Ok.ensures.count
          run.mirrors;
    })

pub returns-in-Err-clause-answers : goal.returns-in-Err-clause-answers
returns-in-Err-clause-answers g c =
    let status = c.status_without.ensures in
    inl (not_created (λ w. (real_ledger w).write_faults) c.in-Err.refused c.status_without.result c.args.world
    status.refused status.memory c.in-Err.ensures.refused)

pub returns-in-Err-clause-mirrors : goal.returns-in-Err-clause-mirrors
returns-in-Err-clause-mirrors g c =
    let status = c.status_without.ensures in
    inl (not_created (λ w. (real_ledger w).write_faults) c.in-Err.refused c.status_without.result c.args.world
    status.refused status.memory c.in-Err.ensures.refused)

pub returns-in-Ok-race_tapped-clause-orderly : goal.returns-in-Ok-race_tapped-clause-orderly
returns-in-Ok-race_tapped-clause-orderly g c =
    stays_orderly g.W.World.honest g.W.World.shows g.W.World.ledger g.W.World.healthy (g.C.Clock.may c.args.clock.now)
    (behind_pairs _ c.args.words.now) c.in-Ok-race_tapped.run'.status c.args.world c.in-Ok-race_tapped.run'.rest.world
    c.in-Ok-race_tapped.ensures.answers
