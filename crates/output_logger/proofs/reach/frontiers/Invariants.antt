use Rattle.std.proofs.Common.{◌≡◌, ℕ, ◌<◌, length, slice_index}
use Rattle.access_log.specs.Held.{lane, IsFrontier}
use Rattle.output_logger.proofs.reach.frontiers.Given as goal

abbrev pub invariant-loop-i : goal.invariant-loop-i
invariant-loop-i l = record {
  all : length l.components ≡ 16;
  frontiers : (t : ℕ) → t < l.i → IsFrontier (lane l.held t) (slice_index l.components t);
}
