use Rattle.std.proofs.Common.{◌≡◌, ℕ, ◌<◌, ◌≤◌, length}
use Rattle.std.specs.Prelude.{slice_index, slice_index_or}
use Rattle.master_core.specs.declared.parts.ThreadPart.{ThreadPart}
use Rattle.master_core.proofs.master.copies.counts_of.Given as goal

-- of the first threads, and 0 in the place of the others
abbrev pub invariant-loop-thread : goal.invariant-loop-thread
invariant-loop-thread l = record {
  all : length l.components ≡ 16;
  each : (t : ℕ) (d : ThreadPart) → t < l.thread
      → slice_index l.components t ≡ (slice_index_or l.threads t d).counts.entries;
  none : (t : ℕ) → l.thread ≤ t → slice_index l.components t ≡ 0;
}
