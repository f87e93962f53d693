use Rattle.std.proofs.Common.{◌≡◌}
use Rattle.test_locks.proofs.lanes.put_all.Given as goal

abbrev pub invariant-loop-number : goal.invariant-loop-number
invariant-loop-number g l = l.sender.lane ≡ l.fn.sender.lane
