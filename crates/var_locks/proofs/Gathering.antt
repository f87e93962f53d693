-- The seats of a round come together.
use Rattle.std.proofs.Common.{◌≡◌, ℕ, ◌+◌, inl, inr, List, [], ◌∷◌, ◌++◌, Option, refl, sym, ap, ◌∙◌, subst}
use Rattle.master_core.specs.declared.parts.VarPart.{VarPart}
use Rattle.atomic_table.specs.Table.{Me}
use Rattle.atomic_table.specs.Seated.{TableId}
use Rattle.var_locks.specs.declared.view.Note.{Note}
use Rattle.var_locks.specs.declared.view.Share.{Share}
use Rattle.var_locks.specs.declared.view.MissedEntry.{MissedEntry}
use Rattle.var_locks.specs.declared.view.View.{View}
use Rattle.var_locks.specs.Notes.{marks_of}
use Rattle.var_locks.specs.Views.{HasShare, IsMissed, joined_view}
use Rattle.var_locks.specs.Seats.{Seated, IsKept, first_notes}
use Rattle.var_locks.specs.Closing.{AreSeats, HasSeat, HasSeats, seat_marks}

share_left : {V : Type 0} (l k : List (Share V)) (x : Share V) → HasShare x l → HasShare x (l ++ k)
share_left [] k x h = absurd h
share_left (y ∷ l) k x (inl e) = inl e
share_left (y ∷ l) k x (inr h) = inr (share_left l k x h)

share_right : {V : Type 0} (l k : List (Share V)) (x : Share V) → HasShare x k → HasShare x (l ++ k)
share_right [] k x h = h
share_right (y ∷ l) k x h = inr (share_right l k x h)

missed_left : (l k : List MissedEntry) (e : MissedEntry) → IsMissed e l → IsMissed e (l ++ k)
missed_left [] k e h = absurd h
missed_left (y ∷ l) k e (inl same) = inl same
missed_left (y ∷ l) k e (inr h) = inr (missed_left l k e h)

missed_right : (l k : List MissedEntry) (e : MissedEntry) → IsMissed e k → IsMissed e (l ++ k)
missed_right [] k e h = h
missed_right (y ∷ l) k e h = inr (missed_right l k e h)

-- what was there stays
pub seats_stay : {V : Type 0} (w u : View V) (seats : List (Seated V)) → HasSeats w seats
    → HasSeats (joined_view w u) seats
seats_stay w u [] has = tt
seats_stay w u (x ∷ others) (one, has) = (
  record {
    share = share_right u.shares w.shares _ one.share;
    missing = λ e named. missed_right u.missing w.missing e (one.missing e named);
  },
  seats_stay w u others has,
)

module _ {V : Type 0} (x : Seated V) (me : Me (VarPart V) (View V)) (marks : List (Option ℕ))
    (kept : IsKept me x.thread x.part x.seen marks x.ended) (notes : first_notes me.0.shares ≡ x.notes)
    (missing : me.0.missing ≡ x.missing) where
  -- a token has its seat
  pub own_seat : HasSeat me.0 x
  own_seat = record {
    share = subst (λ (l : List (Share V)).
        HasShare (record { thread = x.thread; notes = x.notes; part = x.part; ended = x.ended }) l) (sym kept.alone)
        (inl (ap (λ (l : List (Note V)).
        let y : Share V = record { thread = x.thread; notes = l; part = x.part; ended = x.ended } in y) notes));
    missing = λ e named. subst (λ (l : List MissedEntry). IsMissed e l) (sym missing) named;
  }

  pub joined_seat : (w : View V) → HasSeat (joined_view w me.0) x
  joined_seat w =
      let k = own_seat in
      record {
        share = share_left me.0.shares w.shares _ k.share;
        missing = λ e named. missed_left me.0.missing w.missing e (k.missing e named);
      }

  pub own_marks : marks ≡ seat_marks x
  own_marks = kept.marks_are ∙ ap marks_of notes

-- the seat at the end of a list of seats
pub last_seat : {V : Type 0} (round : TableId) (t : ℕ) (rest : List (Seated V)) (x : Seated V) (done : List (Seated V))
    → AreSeats round t (rest ++ x ∷ done) → x.round ≡ round
last_seat round t [] x done are = are.1
last_seat round t (y ∷ rest) x done are = last_seat round (t + 1) rest x done are.3

pub append_again : {A : Type 0} (l : List A) (x : A) (k : List A) → (l ++ x ∷ []) ++ k ≡ l ++ x ∷ k
append_again [] x k = refl
append_again (y ∷ l) x k = λ i. y ∷ append_again l x k i
