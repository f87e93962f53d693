use Rattle.std.proofs.Common.{◌≤◌, length}
use Rattle.several_events.specs.declared.progress.Progress.TheVariants as progress
use Rattle.several_events.specs.Progressing.{to_do}
use Rattle.several_events.specs.Ahead.{GoesOnAs}
use Rattle.several_events.proofs.turns.pass_turns.Given as goal

-- the turns until this one were passed over
abbrev pub invariant-turns : goal.invariant-turns
invariant-turns g l = record {
  goes : GoesOnAs (g.P.Program.meaning l.core.program) l.core (progress.Steps l.left l.thread l.moved)
      (progress.Steps l.left l.turn l.has_moved);
  less : to_do l.core.inputs.threads (length l.core.left) l.core.moves (progress.Steps l.left l.turn l.has_moved)
      ≤ to_do l.core.inputs.threads (length l.core.left) l.core.moves (progress.Steps l.left l.thread l.moved);
}

abbrev pub decreases-turns : goal.decreases-turns
decreases-turns g l =
    to_do l.core.inputs.threads (length l.core.left) l.core.moves (progress.Steps l.left l.turn l.has_moved)
