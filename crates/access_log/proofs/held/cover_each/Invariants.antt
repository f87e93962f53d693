use Rattle.std.proofs.Common.{◌≡◌, ℕ, ◌<◌, ◌≤◌, slice_index}
use Rattle.access_log.specs.Held.{lane, IsRising}
use Rattle.access_log.specs.Lanes.{CoversUpTo}
use Rattle.access_log.proofs.held.cover_each.Given as goal

abbrev pub invariant-loop-i : goal.invariant-loop-i
invariant-loop-i l = record {
  covered : (t : ℕ) → t < l.i → CoversUpTo (lane l.initial.lanes t) (lane l.lanes t) (slice_index l.counts t);
  rising : (t : ℕ) → t < l.i → IsRising (lane l.lanes t).covered (lane l.lanes t).entries;
  ahead : (t : ℕ) → l.i ≤ t → lane l.lanes t ≡ lane l.initial.lanes t;
}
