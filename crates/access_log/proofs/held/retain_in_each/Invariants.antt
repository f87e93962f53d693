use Rattle.std.proofs.Common.{◌≡◌, ℕ, ◌+◌, ◌*◌, ◌^◌, ◌<◌, ◌≤◌}
use Rattle.access_log.specs.Held.{lane, IsRising, held_count}
use Rattle.access_log.specs.Lanes.{RetainsAtMost}
use Rattle.access_log.proofs.held.retain_in_each.Given as goal

abbrev pub invariant-loop-i : goal.invariant-loop-i
invariant-loop-i l = record {
  retained : (t : ℕ) → t < l.i → RetainsAtMost (lane l.initial.lanes t) (lane l.lanes t) l.frontiers;
  rising : (t : ℕ) → t < l.i → IsRising (lane l.lanes t).covered (lane l.lanes t).entries;
  ahead : (t : ℕ) → l.i ≤ t → lane l.lanes t ≡ lane l.initial.lanes t;
  dropped : held_count l.lanes + l.dropped ≡ held_count l.initial.lanes;
  small : l.dropped ≤ l.i * 2 ^ 56;
}
