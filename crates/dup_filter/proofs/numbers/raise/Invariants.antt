use Rattle.std.proofs.Common.{ℕ, ◌<◌, ◌↔◌, IsSome}
use Rattle.std.specs.BTreeMap.{get, btree_map_len}
use Rattle.std.specs.Ordering.{nat_cmp}
use Rattle.dup_filter.specs.Numbers.{IsMarked, HasRoom}
use Rattle.dup_filter.proofs.numbers.raise.Given as goal

abbrev pub invariant-loop-number : goal.invariant-loop-number
invariant-loop-number l = record {
  past : (n : ℕ) → IsSome (get nat_cmp l.above n) → l.floor < n;
  marked : (n : ℕ)
      → IsMarked (record { floor = l.floor; above = l.above.entries }) n
      ↔ IsMarked (record { floor = l.from; above = l.initial.above.entries }) n;
  room : (n : ℕ)
      → HasRoom (record { floor = l.floor; above = l.above.entries }) n
      ↔ HasRoom (record { floor = l.from; above = l.initial.above.entries }) n;
}

abbrev pub decreases-loop-number : goal.decreases-loop-number
decreases-loop-number l = btree_map_len l.above
