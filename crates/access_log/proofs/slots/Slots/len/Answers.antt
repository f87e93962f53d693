use Rattle.std.proofs.Common.{arith, ◌≡◌, length}
use Rattle.access_log.proofs.slots.Slots.len.Goals as goal
use Rattle.access_log.proofs.SlotLemmas.{length-in_slots}
use Rattle.access_log.specs.Rows.{row_slots}

pub overflow_add-result : goal.overflow_add-result
overflow_add-result c =
    let slots = length-in_slots c.self.inside.covered (row_slots c.self.inside.contiguous) in
    let counted = c.count_full.ensures c.self.inside.covered in
    let few = c.self.invariant.few in
    let len : c.len.result ≡ length c.self.inside.out_of_order.entries = c.len.ensures.len in
    omega arith

pub returns-clause-small : goal.returns-clause-small
returns-clause-small c =
    let slots = length-in_slots c.self.inside.covered (row_slots c.self.inside.contiguous) in
    let counted = c.count_full.ensures c.self.inside.covered in
    let few = c.self.invariant.few in
    let len : c.len.result ≡ length c.self.inside.out_of_order.entries = c.len.ensures.len in
    omega arith
