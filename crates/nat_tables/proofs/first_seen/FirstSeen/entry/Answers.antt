use Rattle.std.proofs.Common.{◌≡◌, ◌∙◌, sym, refl, subst, arith, Some, slice_get}
use Rattle.nat_tables.specs.Rows.{present}
use Rattle.nat_tables.proofs.RowLemmas.{row_read}
use Rattle.nat_tables.proofs.RowWords.{some_left}
use Rattle.nat_tables.proofs.first_seen.FirstSeen.entry.Goals as goal

pub returns-then-left-eq0 : goal.returns-then-left-eq0
returns-then-left-eq0 g c =
    let rows = c.deref-row-items.result.now in
    let row = row_read rows c.loop-row.row-index c.row-item.result (omega arith) c.row-item.is in
    let first = some_left rows c.loop-row.row-index c.in-Some.entry (row ∙ c.in-Some.is) in
    let is : slice_get (present rows) c.args.index ≡ Some c.in-Some.entry =
    c.loop-row.invariant ∙ (rw (first, c.if-left-eq0.true) refl) in
    rw (← c.self.view_is)
    (sym (subst (λ xs. slice_get (present xs) c.args.index ≡ Some c.in-Some.entry) c.deref-row-items.ensures.value is))
