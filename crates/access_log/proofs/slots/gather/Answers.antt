use Rattle.std.proofs.Common.{arith, refl, sym, ap, ◌∙◌, ◌≡◌, ◌+◌, ◌++◌, length, not, true, IsSome}
use Rattle.access_log.proofs.slots.gather.Goals as goal
use Rattle.access_log.proofs.SlotLemmas.{at, IsSlotted-gathered, popped, in_slots-push}
use Rattle.access_log.specs.Rows.{row_slots}
use Rattle.access_log.specs.Slots.{in_slots}
use Rattle.std.specs.Prelude.{is_ok}

pub loop-number-preserved : goal.loop-number-preserved
loop-number-preserved c =
    let contiguous = row_slots c.loop-number.contiguous in
    let out_of_order = c.loop-number.out_of_order.entries in
    let rest = c.pop_first.new.self.entries in
    let k = c.in-Some.number.now in
    let e = c.in-Some.entry.now in
    let is = c.loop-number.invariant.slotted in
    let good : is_ok c.push.result ≡ true = c.is_err.ensures.negation ∙ ap not c.if-is_err.false in
    let pushed = rw good at c.push.ensures.items in
    let took = popped c.pop_first.result out_of_order rest k e c.in-Some.ensures.first
    (c.pop_first.ensures.variant.1 (c.in-Some.ensures.variant.0 refl)) c.pop_first.ensures.removal in
    let removed = rw took at c.pop_first.ensures.removal in
    let updates = rw took at c.pop_first.ensures.updates in
    let some : IsSome (at out_of_order k) = rw c.in-Some.ensures.value refl in
    let past = is.past k some in
    let next : k ≡ c.args.covered + length contiguous + 1 = omega (arith, c.if-number-covered.false, c.len.ensures) in
    record {
      slotted =
          rw pushed (IsSlotted-gathered c.args.covered contiguous out_of_order rest k e is removed updates.1 next);
      same = rw pushed (in_slots-push c.args.covered contiguous k e rest next
          ∙ ap (λ l. in_slots c.args.covered contiguous ++ l) (sym removed)
          ∙ c.loop-number.invariant.same);
    }
