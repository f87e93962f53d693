use Rattle.std.proofs.Common.{◌≡◌, ℕ, ◌<◌, List, Bool, false, [], ◌∷◌, ◌++◌, sym, ap, ◌∙◌, arith}
use Rattle.std.specs.Prelude.{slice_index_or}
use mathlib.Core.Option as logic
use lib.ListN.{get_elem?}
use Rattle.master_core.specs.declared.parts.VarPart.{VarPart}
use Rattle.var_locks.proofs.Slots.{take_next, full_left, empty_so_far}
use Rattle.var_locks.proofs.vars.take_out.Goals as goal

pub loop-slot-preserved : goal.loop-slot-preserved
loop-slot-preserved g c =
    let i : ℕ = c.loop-slot.slot in
    let inv = c.loop-slot.invariant in
    let o = c.take.ensures.others in
    let end : c.loop-slot.slot < c.slot_count-slot-end.result = c.loop-slot-test.true in
    let len : c.take.new.self.slots.len ≡ c.loop-slot.closed.slots.len = o.2 in
    let last = inv.3 in
    let found : get_elem? c.args.closed.slots.items c.loop-slot.slot ≡ logic.some c.into_part.result =
    ap (λ (l : List (VarPart g.row.V.Denot)). get_elem? l c.loop-slot.slot) (sym inv.0)
    ∙ (c.take.ensures.value ∙ ap logic.some (sym c.into_part.ensures)) in (
      o.0 ∙ inv.0,
      o.2 ∙ inv.1,
      omega (arith, end, last, len),
      inv.3 ∙ sym o.2,
      c.push_reserved.ensures.items
          ∙ (ap (λ (l : List (VarPart g.row.V.Denot)). l ++ c.into_part.result ∷ []) inv.4
          ∙ sym (take_next c.args.closed.slots.items c.loop-slot.slot c.into_part.result found)),
      (let room = inv.5 in let same = c.push_reserved.ensures.capacity in omega (arith, room, same, len)),
      (λ k low above.
          ap (λ (l : List Bool). slice_index_or l k false) o.1
          ∙ full_left c.loop-slot.closed.slots.filled c.loop-slot.slot c.loop-slot.closed.slots.len inv.6 k
          (omega (arith, low, len)) above),
      λ k low.
          ap (λ (l : List Bool). slice_index_or l k false) o.1
          ∙ empty_so_far c.loop-slot.closed.slots.filled c.loop-slot.slot inv.7 k low,
    )
