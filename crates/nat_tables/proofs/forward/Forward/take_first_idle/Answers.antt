use Rattle.std.proofs.Common.{sym, refl, ap, Some}
use Rattle.nat_tables.proofs.RowLemmas.{row_inside, row_set_same}
use Rattle.nat_tables.proofs.IdleLemmas.{live_cleared, live_noted, first_is, first_removed, none_is, idle_some}
use Rattle.nat_tables.proofs.forward.Forward.take_first_idle.Goals as goal

pub returns-in_err-at : goal.returns-in_err-at
returns-in_err-at c =
    let none = none_is c.args.now c.self.inside.slots c.in_err-at.ensures.first in
    rw (c.from_residual.ensures, ← c.self.view_is, none) refl

pub returns-in_err-key : goal.returns-in_err-key
returns-in_err-key c =
    absurd (idle_some c.args.now c.self.inside.slots c.in_ok-at.at c.in_ok-at.ensures.first c.in_err-key.ensures)

pub invariant_of-self-2 : goal.invariant_of-self-2
invariant_of-self-2 c =
    let rows = c.self.inside.slots in
    let at = c.in_ok-at.at in
    let inside = row_inside rows at (c.in_ok-key.key, c.in_ok-key.slot) (sym c.in_ok-key.ensures) in
    rw (c.note.ensures, c.clear.ensures)
    (live_noted _ _ at _ (live_cleared _ rows at c.in_ok-at.ensures.live) (rw (row_set_same rows at _ inside) tt))

pub returns : goal.returns
returns c =
    let rows = c.self.inside.slots in
    let at = c.in_ok-at.at in
    let first = first_is c.args.now rows at (c.in_ok-key.key, c.in_ok-key.slot) c.in_ok-at.ensures.first
    (sym c.in_ok-key.ensures) in
    rw (c.clear.ensures, ← c.self.view_is, first)
    (ap (λ es. (Some (c.in_ok-key.key, c.in_ok-key.slot), es))
    (sym (first_removed c.args.now rows at c.in_ok-at.ensures.first)))
