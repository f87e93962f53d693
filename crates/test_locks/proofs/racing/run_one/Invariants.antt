use Rattle.std.proofs.Common.{false}
use Rattle.test_locks.specs.Racing.{IsSeatIn}
use Rattle.test_locks.proofs.racing.run_one.Given as goal

-- the seat stays that of the thread
abbrev pub invariant-loop-made : goal.invariant-loop-made
invariant-loop-made g l = IsSeatIn {V = g.row.P-Value.Denot} l.vars.round l.thread false l.seat
