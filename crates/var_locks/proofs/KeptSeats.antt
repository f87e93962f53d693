-- A seat's token has what the seat keeps, before its move and after it.
use Rattle.std.proofs.Common.{◌≡◌, ℕ, Bool, List, [], ◌∷◌, ◌++◌, Option, refl, sym, ap, ◌∙◌, subst}
use Rattle.master_core.specs.declared.parts.VarPart.{VarPart}
use Rattle.master_core.specs.declared.parts.ThreadPart.{ThreadPart}
use Rattle.atomic_table.specs.Table.{Me}
use Rattle.atomic_table.specs.Seated.{TableId}
use Rattle.var_locks.specs.declared.view.Note.{Note}
use Rattle.var_locks.specs.declared.view.Share.{Share}
use Rattle.var_locks.specs.declared.view.View.{View}
use Rattle.var_locks.specs.Notes.{mark_in, marks_of}
use Rattle.var_locks.specs.Views.{noted_view, note_shares, seen_after}
use Rattle.var_locks.specs.Seats.{Seated, IsCounted, IsKept, first_notes}

-- what is seen of a seat that keeps this
abbrev pub seat_of : {V : Type 0} → Me (VarPart V) (View V) → ℕ → ThreadPart → List ℕ → Bool → TableId → Seated V
seat_of me thread part seen ended round = record {
  thread = thread;
  part = part;
  notes = first_notes me.0.shares;
  seen = seen;
  missing = me.0.missing;
  ended = ended;
  round = round;
}

module _ {V : Type 0} (me : Me (VarPart V) (View V)) (thread : ℕ) (part : ThreadPart) (seen : List ℕ)
    (marks : List (Option ℕ)) (ended : Bool) (kept : IsKept me thread part seen marks ended) where
  -- the notes of the token with one more
  pub notes_more : (n : Note V) → first_notes (note_shares me.0.shares n) ≡ n ∷ first_notes me.0.shares
  notes_more n = ap (λ (l : List (Share V)). first_notes (note_shares l n)) kept.alone

  pub kept_more : (n : Note V) → seen_after me.0.seen n.trace ≡ seen → IsCounted n.after
      → IsKept (noted_view me.0 n, me.1) thread n.after seen (marks ++ mark_in n.trace ∷ []) ended
  kept_more n unseen counted = record {
    alone =
        ap (λ (l : List (Share V)). note_shares l n) kept.alone
        ∙ ap (λ (l : List (Note V)).
        (let y : Share V = record { thread = thread; notes = l; part = n.after; ended = ended } in y) ∷ [])
        (sym (notes_more n));
    empty = refl;
    slots = kept.slots;
    seen_is = unseen;
    marks_are =
        ap (λ (l : List (Option ℕ)). l ++ mark_in n.trace ∷ []) kept.marks_are
        ∙ ap marks_of (sym (notes_more n));
    counted = counted;
  }

  -- what the seat keeps after a move on no variable, of which the token has the note and the marks have the mark
  pub kept_noted : (n : Note V) → seen_after me.0.seen n.trace ≡ me.0.seen → IsCounted n.after
      → (new : Me (VarPart V) (View V)) → new ≡ (noted_view me.0 n, me.1) → (now : List (Option ℕ))
      → now ≡ marks ++ mark_in n.trace ∷ [] → IsKept new thread n.after seen now ended
  kept_noted n unseen counted new token now marked =
      subst (λ (z : Me (VarPart V) (View V)). IsKept z thread n.after seen now ended) (sym token)
      (subst (λ (l : List (Option ℕ)). IsKept (noted_view me.0 n, me.1) thread n.after seen l ended) (sym marked)
      (kept_more n (unseen ∙ kept.seen_is) counted))

  -- and what is seen of it
  pub seat_noted : (n : Note V) (new : Me (VarPart V) (View V)) → new ≡ (noted_view me.0 n, me.1)
      → (round next : TableId) → next ≡ round
      → seat_of new thread n.after seen ended next ≡ (let y : Seated V = record {
        thread = thread;
        part = n.after;
        notes = n ∷ first_notes me.0.shares;
        seen = seen;
        missing = me.0.missing;
        ended = ended;
        round = round;
      } in
      y)
  seat_noted n new token round next same =
      ap (λ (z : Me (VarPart V) (View V)). seat_of z thread n.after seen ended next) token
      ∙ (ap (λ (l : List (Note V)).
      let y : Seated V = record {
        thread = thread;
        part = n.after;
        notes = l;
        seen = seen;
        missing = me.0.missing;
        ended = ended;
        round = next;
      } in
      y) (notes_more n)
      ∙ ap (λ (r : TableId).
      let y : Seated V = record {
        thread = thread;
        part = n.after;
        notes = n ∷ first_notes me.0.shares;
        seen = seen;
        missing = me.0.missing;
        ended = ended;
        round = r;
      } in
      y) same)
