use Rattle.std.proofs.Common.{arith, ◌<◌, None, length, take, slice_index_or, length-take, add-one}
use Rattle.access_log.proofs.slots.count_full.Goals as goal
use Rattle.std.proofs.Math.Seq.{take-suc}
use Rattle.access_log.specs.Rows.{row_slots}
use Rattle.access_log.proofs.SlotLemmas.{length-in_slots-push, length-in_slots}

pub overflow_add-count : goal.overflow_add-count
overflow_add-count c =
    let items = row_slots c.args.contiguous.now in
    let most = length-in_slots 0 (take c.loop-i.i items) in
    let counted = c.loop-i.invariant 0 in
    let cut = length-take c.loop-i.i items in
    let small = c.count_in-count.ensures.small in
    omega arith

pub loop-i-preserved : goal.loop-i-preserved
loop-i-preserved c = λ from.
    let items = row_slots c.args.contiguous.now in
    let i = c.loop-i.i in
    let within : i < length items = omega (arith, c.len-i-end.ensures, c.loop-i-test.true) in
    let t = rw (← add-one) at (take-suc items i None within) in
    let push = length-in_slots-push from (take i items) (slice_index_or items i None) in
    let one = rw c.get.ensures at c.count_in-count.ensures.count in
    let counted = c.loop-i.invariant from in
    rw t (omega arith)
