use Rattle.std.proofs.Common.{◌≡◌, ◌↔◌, ℕ, ◌≤◌, ◌<◌, length, Some, None, slice_index_or}
use Rattle.thread_clock.specs.Clock.{AtMost}
use Rattle.access_log.specs.Rows.{row_slots}
use Rattle.access_log.specs.declared.entry.StampedEntry.{StampedEntry}
use Rattle.access_log.proofs.slots.empty_above.Given as goal

abbrev pub invariant-loop-i : goal.invariant-loop-i
invariant-loop-i l = record {
  slots : length (row_slots l.contiguous) ≡ length (row_slots l.initial.contiguous);
  held : (i : ℕ) (e : StampedEntry) → i < l.i
      → (slice_index_or (row_slots l.contiguous) i None ≡ Some e)
      ↔ ((slice_index_or (row_slots l.initial.contiguous) i None ≡ Some e) × AtMost e.stamp l.frontiers);
  ahead : (i : ℕ) → l.i ≤ i
      → slice_index_or (row_slots l.contiguous) i None ≡ slice_index_or (row_slots l.initial.contiguous) i None;
}
