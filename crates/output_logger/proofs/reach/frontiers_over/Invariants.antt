use Rattle.std.proofs.Common.{◌≡◌, ℕ, ◌<◌, ◌≤◌, length, slice_index}
use Rattle.access_log.specs.Held.{Lane, lane, IsFrontier}
use Rattle.access_log.specs.Lanes.{CoversUpTo}
use Rattle.output_logger.proofs.reach.frontiers_over.Given as goal

abbrev pub invariant-loop-thread : goal.invariant-loop-thread
invariant-loop-thread l = record {
  all : length l.components ≡ 16;
  covered : (t : ℕ) → t < l.thread → (new : Lane) → CoversUpTo (lane l.held t) new (slice_index l.counts t)
      → IsFrontier new (slice_index l.components t);
  rest : (t : ℕ) → l.thread ≤ t → slice_index l.components t ≡ 0;
}
