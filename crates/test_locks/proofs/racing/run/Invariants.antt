use Rattle.std.proofs.Common.{false}
use Rattle.test_locks.specs.Racing.{IsSeatIn}
use Rattle.test_locks.proofs.racing.run.Given as goal

-- the seat stays that of the thread
abbrev pub invariant-loop-number : goal.invariant-loop-number
invariant-loop-number g l = IsSeatIn {V = g.row.P-Value.Denot} l.vars.round l.thread false l.seat
