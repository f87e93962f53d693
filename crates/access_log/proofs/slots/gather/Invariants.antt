use Rattle.std.proofs.Common.{◌≡◌, ◌++◌}
use Rattle.std.specs.BTreeMap.{btree_map_len}
use Rattle.access_log.specs.Rows.{row_slots}
use Rattle.access_log.specs.Slots.{in_slots, IsSlotted}
use Rattle.access_log.proofs.slots.gather.Given as goal

abbrev pub invariant-loop-number : goal.invariant-loop-number
invariant-loop-number l = record {
  slotted : IsSlotted l.covered (row_slots l.contiguous) l.out_of_order.entries;
  same : in_slots l.covered (row_slots l.contiguous) ++ l.out_of_order.entries
      ≡ in_slots l.covered (row_slots l.initial.contiguous) ++ l.initial.out_of_order.entries;
}

abbrev pub decreases-loop-number : goal.decreases-loop-number
decreases-loop-number l = btree_map_len l.out_of_order
