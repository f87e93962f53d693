use Rattle.std.proofs.Common.{◌≡◌, ◌≤◌, length}
use Rattle.bench.proofs.logger.come_in_order.Given as goal

abbrev pub invariant-loop-i : goal.invariant-loop-i
invariant-loop-i l = (length l.logger.held ≡ 1) × (1 ≤ l.logger.epoch)
