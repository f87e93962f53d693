use Rattle.std.proofs.Common.{◌≡◌, ℕ, ◌<◌, ◌⊎◌, slice_index}
use Rattle.output_logger.specs.Kept.{IsIndexed}
use Rattle.output_logger.proofs.waiting.enter.Given as goal

abbrev pub invariant-loop-thread : goal.invariant-loop-thread
invariant-loop-thread l = record {
  keeps : (u n a : ℕ) → IsIndexed l.initial.index.keys u n a → IsIndexed l.index.keys u n a;
  enters : (u : ℕ) → u < l.thread → slice_index l.frontiers u < slice_index l.stamp u
      → IsIndexed l.index.keys u (slice_index l.stamp u) l.arrival;
  only : (u n a : ℕ) → IsIndexed l.index.keys u n a
      → IsIndexed l.initial.index.keys u n a ⊎ ((u < 16) × (n ≡ slice_index l.stamp u) × (a ≡ l.arrival));
}
