use Rattle.std.proofs.Common.{◌∙◌, ◌++◌, ◌∷◌, [], sym, ap, arith, map, Some}
use Rattle.std.proofs.lemmas.List.{take_all}
use Rattle.nat_tables.specs.Rows.{present}
use Rattle.nat_tables.proofs.RowLemmas.{row_read, found_apart, absent_swept, swept_next, none_next}
use Rattle.nat_tables.proofs.first_seen.FirstSeen.swept.Goals as goal
use Rattle.nat_tables.proofs.first_seen.FirstSeen.swept.Goals.{in-Some+in_ok-push, in_default}

pub push-requires : goal.push-requires
push-requires g c =
    let rows = c.deref-row-items.result.now in
    let at = c.loop-row.row-index in
    let row = row_read rows at c.row-item.result (omega arith) c.row-item.is in
    let all = found_apart g.K.PartialEq.eq g.met.K.Eq.laws c.self.inside.indexed _ _ _ c.self.invariant in
    rw c.loop-row.invariant
    (absent_swept g.K.PartialEq.eq g.met.K.Eq.laws _ rows at c.in-Some.entry
    (rw (← c.deref-row-items.ensures.value) at all) (row ∙ c.in-Some.is))

pub loop-row-preserved : goal.loop-row-preserved
loop-row-preserved g c =
    let rows = c.deref-row-items.result.now in
    let at = c.loop-row.row-index in
    let row = row_read rows at c.row-item.result (omega arith) c.row-item.is in
    elim c.match-row.branch [
      | in-Some+in_ok-push w ↦
          w.swept-is ∙ w.in_ok-push.ensures.ok ∙ ap (λ xs. xs ++ Some w.in-Some.entry ∷ []) c.loop-row.invariant
          ∙ sym (swept_next rows at w.in-Some.entry (row ∙ w.in-Some.is))
      | in_default w ↦
          w.swept-is ∙ c.loop-row.invariant
          ∙ ap (map (λ entry. Some entry)) (sym (none_next rows at (row ∙ w.in_default.is)))
    ]

pub returns : goal.returns
returns g c =
    let whole = take_all c.loop-row.row-index c.deref-row-items.result.now (omega arith) in
    c.loop-row.invariant
    ∙ ap (λ xs. map (λ entry. Some entry) (present xs)) (whole ∙ c.deref-row-items.ensures.value ∙ c.self.view_is)
