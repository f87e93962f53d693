use Rattle.link_store.specs.Runs.{TurnsIn}
use Rattle.link_store.proofs.AllLemmas.{IsFirst}
use Rattle.link_store.proofs.links.turn_runs.Given as goal

abbrev pub invariant-loop-i : goal.invariant-loop-i
invariant-loop-i l = IsFirst (TurnsIn l.epoch) l.initial.runs.items l.runs.items l.i
