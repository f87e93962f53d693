use Rattle.std.proofs.Common.{rules, arith, refl, ◌≤◌, length, length-append}
use Rattle.access_log.proofs.slots.Slots.retain_at_most.Goals as goal
use Rattle.access_log.proofs.RetainedLemmas.{retained}
use Rattle.access_log.proofs.SlotLemmas.{at-retained, length-in_slots-fewer}
use Rattle.access_log.specs.Rows.{row_slots}

pub returns-clause-retained : goal.returns-clause-retained
returns-clause-retained c =
    let s = c.self.inside in
    rw (← c.self.view_is) (record {
      covered = refl;
      held = at-retained s.covered (row_slots s.contiguous) (row_slots c.empty_above.new.contiguous)
          s.out_of_order.entries c.retain.new.self.entries c.args.frontiers.now c.self.invariant c.empty_above.ensures
          (retained _ (λ v. v.stamp) c.args.frontiers.now _ (λ k v b w f' t. search rules) _ _
          c.retain.ensures.was_ordered c.retain.ensures.filtered);
    })

pub returns-clause-fewer : goal.returns-clause-fewer
returns-clause-fewer c =
    let s = c.self.inside in
    let slots = length-in_slots-fewer s.covered (row_slots s.contiguous) (row_slots c.empty_above.new.contiguous)
    c.empty_above.ensures.slots (λ i e h. ((c.empty_above.ensures.held i e).0 h).0) in
    let out_of_order : length c.retain.new.self.entries ≤ length s.out_of_order.entries = c.retain.ensures.bound in
    rw (← c.self.view_is) (simp length-append (omega arith))
