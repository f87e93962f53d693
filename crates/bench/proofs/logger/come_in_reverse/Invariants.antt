use Rattle.std.proofs.Common.{◌≡◌, ◌≤◌, length}
use Rattle.bench.proofs.logger.come_in_reverse.Given as goal

abbrev pub invariant-loop-i : goal.invariant-loop-i
invariant-loop-i l = (length l.logger.held ≡ 1) × (1 ≤ l.logger.epoch)

abbrev pub invariant-loop-i-2 : goal.invariant-loop-i-2
invariant-loop-i-2 l = (length l.logger.held ≡ 1) × (1 ≤ l.logger.epoch)
