use Rattle.std.proofs.Common.{refl, ap, ◌∙◌, ◌≡◌, ◌-◌, ◌≤◌, length, drop, min}
use Rattle.access_log.proofs.slots.Slots.cover.Goals as goal
use Rattle.access_log.proofs.SlotLemmas.{at-covered}
use Rattle.access_log.specs.Rows.{row_slots}

pub returns : goal.returns
returns c =
    let s = c.self.inside in
    let rising : s.covered ≤ c.args.count = rw (← c.self.view_is) at c.requires in
    let amount : c.min.result ≡ min (length (row_slots s.contiguous)) (c.args.count - s.covered) =
    c.min.ensures ∙ ap (λ l. min l (c.args.count - s.covered)) c.len-slots.ensures in
    let kept = c.drop_first.ensures ∙ ap (λ k. drop k (row_slots s.contiguous)) amount in
    rw (← c.self.view_is, kept) (record {
      covered = refl;
      held = at-covered s.covered (row_slots s.contiguous) s.out_of_order.entries
          c.drop_out_of_order_up_to.new.out_of_order.entries c.args.count c.self.invariant rising
          c.drop_out_of_order_up_to.ensures.held;
    })
