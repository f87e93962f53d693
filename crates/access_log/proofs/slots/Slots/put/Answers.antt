use Rattle.std.proofs.Common.{arith, sym, ◌∙◌, ◌≡◌, ℕ, ◌+◌, ◌-◌, ◌<◌, None, ◌++◌, length}
use Rattle.access_log.proofs.slots.Slots.put.Goals as goal
use Rattle.access_log.specs.Slots.{in_slots}
use Rattle.access_log.proofs.SlotLemmas.{at, at-past, PutsEntry-slot, PutsEntry-push, PutsEntry-out_of_order}
use Rattle.access_log.proofs.SlotLemmas.{IsSlotted-pushed}
use Rattle.access_log.specs.Rows.{row_slots}

pub returns-then-place-slots-clause-ok : goal.returns-then-place-slots-clause-ok
returns-then-place-slots-clause-ok c =
    let s = c.self.inside in
    let i : ℕ = c.args.number - s.covered - 1 in
    let above : s.covered < c.args.number = rw (← c.self.view_is) at c.requires.past in
    let within : i < length (row_slots s.contiguous) = omega (arith, c.if-place-slots.true, c.len-slots.ensures) in
    let free = rw (← c.self.view_is) at c.requires.free in
    rw (← c.self.view_is, c.in_ok-set.ensures.items) (PutsEntry-slot s.covered (row_slots s.contiguous)
    s.out_of_order.entries c.args.number i c.args.entry.now c.self.invariant (omega arith) within free)

pub gather-requires : goal.gather-requires
gather-requires c =
    let s = c.self.inside in
    let above : s.covered < c.args.number = rw (← c.self.view_is) at c.requires.past in
    let place : c.args.number ≡ s.covered + length (row_slots s.contiguous) + 1 =
    omega (arith, c.if-place-slots-2.true, c.len-slots.ensures) in
    let free : at (in_slots s.covered (row_slots s.contiguous) ++ s.out_of_order.entries) c.args.number ≡ None =
    rw (← c.self.view_is) at c.requires.free in
    let none : at s.out_of_order.entries c.args.number ≡ None =
    sym (at-past s.covered (row_slots s.contiguous) s.out_of_order.entries c.args.number (omega arith)) ∙ free in
    let out_of_order : c.len-2.result ≡ length s.out_of_order.entries = c.len-2.ensures.len in
    rw c.in_ok-push.ensures.items (IsSlotted-pushed s.covered (row_slots s.contiguous) s.out_of_order.entries
    c.args.number c.args.entry.now c.self.invariant place (omega arith) none (omega (arith, c.if-len.false, c.len.ensures)))

pub returns-then-place-slots-2-clause-ok : goal.returns-then-place-slots-2-clause-ok
returns-then-place-slots-2-clause-ok c =
    let s = c.self.inside in
    let above : s.covered < c.args.number = rw (← c.self.view_is) at c.requires.past in
    let place : c.args.number ≡ s.covered + length (row_slots s.contiguous) + 1 =
    omega (arith, c.if-place-slots-2.true, c.len-slots.ensures) in
    let free : at (in_slots s.covered (row_slots s.contiguous) ++ s.out_of_order.entries) c.args.number ≡ None =
    rw (← c.self.view_is) at c.requires.free in
    let none : at s.out_of_order.entries c.args.number ≡ None =
    sym (at-past s.covered (row_slots s.contiguous) s.out_of_order.entries c.args.number (omega arith)) ∙ free in
    let puts = PutsEntry-push s.covered (row_slots s.contiguous) s.out_of_order.entries c.args.number c.args.entry.now
    c.self.invariant place none in
    let same = c.gather.ensures.same in
    rw (← c.self.view_is, same, c.in_ok-push.ensures.items) puts

pub returns-clause-ok : goal.returns-clause-ok
returns-clause-ok c =
    let s = c.self.inside in
    let above : s.covered < c.args.number = rw (← c.self.view_is) at c.requires.past in
    let apart = c.if-place-slots-2.false in
    let past : s.covered + length (row_slots s.contiguous) < c.args.number =
    omega (arith, c.if-place-slots.false, c.if-place-slots-2.false, c.len-slots.ensures) in
    let free : at (in_slots s.covered (row_slots s.contiguous) ++ s.out_of_order.entries) c.args.number ≡ None =
    rw (← c.self.view_is) at c.requires.free in
    let none : at s.out_of_order.entries c.args.number ≡ None =
    sym (at-past s.covered (row_slots s.contiguous) s.out_of_order.entries c.args.number past) ∙ free in
    let ok = c.in_ok-insert.ensures in
    let old : c.in_ok-insert.field-0 ≡ None = c.in_ok-insert.ensures.old ∙ none in
    let counted = rw old at c.in_ok-insert.ensures.len in
    rw (← c.self.view_is) (PutsEntry-out_of_order s.covered (row_slots s.contiguous) s.out_of_order.entries
    c.insert.new.self.entries c.args.number c.args.entry.now c.self.invariant past c.in_ok-insert.ensures.updates.1
    c.in_ok-insert.ensures.updates.2 counted)
