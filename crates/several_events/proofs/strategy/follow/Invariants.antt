use Rattle.std.proofs.Common.{length}
use Rattle.system_parts.specs.Performing.{Appends, MovesOn, Releasing}
use Rattle.several_events.specs.Progressing.{to_do}
use Rattle.several_events.specs.Ahead.{GoesAhead}
use Rattle.several_events.proofs.strategy.follow.Given as goal

-- the strategy goes on from here, whatever it comes to, and the system may be ahead of it
abbrev pub invariant-events : goal.invariant-events
invariant-events g l = record {
  moved : MovesOn (g.P.Program.meaning l.fn.core.program) (Releasing l.fn.out l.out (GoesAhead l.fn.from l.at))
      l.fn.core l.core;
  appends : Appends l.fn.out l.out;
}

abbrev pub decreases-events : goal.decreases-events
decreases-events g l = to_do l.core.inputs.threads (length l.core.left) l.core.moves l.at
