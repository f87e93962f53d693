use Rattle.std.proofs.Common.{◌≡◌}
use Rattle.test_locks.proofs.lanes.take_all.Given as goal

abbrev pub invariant-loop : goal.invariant-loop
invariant-loop g l = l.receiver.lane ≡ l.fn.receiver.lane
