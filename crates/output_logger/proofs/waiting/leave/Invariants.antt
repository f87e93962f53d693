use Rattle.std.proofs.Common.{ℕ, ◌<◌, ◌≢◌, slice_index}
use Rattle.output_logger.specs.Kept.{IsIndexed}
use Rattle.output_logger.proofs.waiting.leave.Given as goal

abbrev pub invariant-loop-thread : goal.invariant-loop-thread
invariant-loop-thread l = record {
  keeps : (u n a : ℕ) → a ≢ l.arrival → IsIndexed l.initial.index.keys u n a → IsIndexed l.index.keys u n a;
  only : (u n a : ℕ) → IsIndexed l.index.keys u n a → IsIndexed l.initial.index.keys u n a;
  gone : (u : ℕ) → u < l.thread → IsIndexed l.index.keys u (slice_index l.stamp u) l.arrival → ⊥;
}
