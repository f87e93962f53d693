use Rattle.std.proofs.Common.{arith, rules}
use Rattle.access_log.proofs.slots.Slots.holds.Goals as goal
use Rattle.access_log.proofs.SlotLemmas.{at-outside, at-inside, no_later}
use Rattle.access_log.specs.Rows.{row_slots}

pub returns-in-None : goal.returns-in-None
returns-in-None c =
    let s = c.self.inside in
    rw (
      ← c.self.view_is,
      at-outside s.covered (row_slots s.contiguous) s.out_of_order.entries c.args.number
          (c.slot_of.ensures.none c.in-None.is),
      c.contains_key.ensures,
    ) (search rules)

pub returns-in-Some : goal.returns-in-Some
returns-in-Some c =
    let s = c.self.inside in
    let i = c.in-Some.slot in
    let slot = rw c.in-Some.is at c.slot_of.ensures.slot in
    let none = no_later s.covered (row_slots s.contiguous) s.out_of_order.entries c.self.invariant c.args.number
    (omega (arith, slot.0, slot.1)) in
    rw (
      ← c.self.view_is,
      at-inside s.covered (row_slots s.contiguous) s.out_of_order.entries c.args.number i slot.1
          slot.0 none,
    ) c.is_full.ensures
