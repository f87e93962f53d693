use Rattle.std.proofs.Common.{◌≡◌, ℕ, ◌<◌, ◌≤◌}
use Rattle.std.specs.BTreeMap.{get, btree_map_len}
use Rattle.std.specs.Ordering.{nat_cmp}
use Rattle.access_log.proofs.slots.drop_out_of_order_up_to.Given as goal

abbrev pub invariant-loop-number : goal.invariant-loop-number
invariant-loop-number l = record {
  out_of_order : (n : ℕ) → l.count < n → get nat_cmp l.out_of_order n ≡ get nat_cmp l.initial.out_of_order n;
  fewer : btree_map_len l.out_of_order ≤ btree_map_len l.initial.out_of_order;
}

abbrev pub decreases-loop-number : goal.decreases-loop-number
decreases-loop-number l = btree_map_len l.out_of_order
