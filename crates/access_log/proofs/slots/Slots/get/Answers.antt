use Rattle.std.proofs.Common.{sym, arith, ◌∙◌}
use Rattle.access_log.proofs.slots.Slots.get.Goals as goal
use Rattle.access_log.proofs.SlotLemmas.{at-outside, at-inside, no_later}
use Rattle.access_log.specs.Rows.{row_slots}

pub returns-in-None : goal.returns-in-None
returns-in-None c =
    let s = c.self.inside in
    rw (← c.self.view_is) (c.copied.ensures
    ∙ c.get-in-None.ensures.value
    ∙ sym (at-outside s.covered (row_slots s.contiguous) s.out_of_order.entries c.args.number
    (c.slot_of.ensures.none c.in-None.is)))

pub returns-in-Some : goal.returns-in-Some
returns-in-Some c =
    let s = c.self.inside in
    let i = c.in-Some.slot in
    let slot = rw c.in-Some.is at c.slot_of.ensures.slot in
    let none = no_later s.covered (row_slots s.contiguous) s.out_of_order.entries c.self.invariant c.args.number
    (omega (arith, slot.0, slot.1)) in
    rw (← c.self.view_is) (c.get.ensures
    ∙ sym (at-inside s.covered (row_slots s.contiguous) s.out_of_order.entries c.args.number i slot.1 slot.0 none))
