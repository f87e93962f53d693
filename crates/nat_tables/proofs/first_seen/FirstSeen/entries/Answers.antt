use Rattle.std.proofs.Common.{◌∙◌, ◌++◌, ◌∷◌, [], sym, ap, arith}
use Rattle.nat_tables.proofs.RowLemmas.{row_read, some_next, none_next}
use Rattle.nat_tables.proofs.first_seen.FirstSeen.entries.Goals as goal
use Rattle.nat_tables.proofs.first_seen.FirstSeen.entries.Goals.{in-Some+in_ok-push, in_default}

pub loop-row-preserved : goal.loop-row-preserved
loop-row-preserved g c =
    let rows = c.deref-row-items.result.now in
    let at = c.loop-row.row-index in
    let row = row_read rows at c.row-item.result (omega arith) c.row-item.is in
    elim c.match-row.branch [
      | in-Some+in_ok-push w ↦
          ap (λ v. v.items) w.entries-is ∙ w.in_ok-push.ensures.items
          ∙ ap (λ xs. xs ++ w.in-Some.entry ∷ []) c.loop-row.invariant
          ∙ sym (some_next rows at w.in-Some.entry (row ∙ w.in-Some.is))
      | in_default w ↦
          ap (λ v. v.items) w.entries-is ∙ c.loop-row.invariant ∙ sym (none_next rows at (row ∙ w.in_default.is))
    ]
