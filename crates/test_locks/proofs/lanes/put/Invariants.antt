use Rattle.std.proofs.Common.{◌≡◌}
use Rattle.test_locks.proofs.lanes.put.Given as goal

abbrev pub invariant-loop : goal.invariant-loop
invariant-loop g l = l.sender.lane ≡ l.fn.sender.lane
