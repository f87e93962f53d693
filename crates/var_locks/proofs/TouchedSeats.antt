-- A seat after a touch or a read.
use Rattle.std.proofs.Common.{◌≡◌, ◌<◌, ◌≤◌, ◌^◌, ℕ, false, List, [], ◌∷◌, ◌++◌, Option, refl, sym, ap, ◌∙◌, subst}
use Rattle.std.specs.Prelude.{slice_index}
use Rattle.access_log.specs.Held.{Lane}
use Rattle.plain_machine.specs.Program.{Meaning}
use Rattle.master_core.specs.declared.parts.VarPart.{VarPart}
use Rattle.master_core.specs.declared.parts.ThreadPart.{ThreadPart}
use Rattle.master_core.specs.declared.step.Trace.TheVariants as trace
use Rattle.master_core.specs.Mastered.{moves_made}
use Rattle.atomic_table.specs.Table.{Me}
use Rattle.atomic_table.specs.Seated.{TableId}
use Rattle.var_locks.specs.declared.touching.Touched.{Touched}
use Rattle.var_locks.specs.declared.touching.Touched.TheVariants as touched
use Rattle.var_locks.specs.declared.view.Note.{Note}
use Rattle.var_locks.specs.declared.view.Share.{Share}
use Rattle.var_locks.specs.declared.view.MissedEntry.{MissedEntry}
use Rattle.var_locks.specs.declared.view.View.{View}
use Rattle.var_locks.specs.Notes.{IsOnVariable, mark_in, marks_of}
use Rattle.var_locks.specs.declared.touching.Access.{Access}
use Rattle.var_locks.specs.Views.{with_hand, empty_hand, missed_view, noted_view, note_on, note_shares, seen_after}
use Rattle.var_locks.specs.Views.{sees_what}
use Rattle.var_locks.specs.Seats.{Seated, IsCounted, IsKept, first_notes}
use Rattle.var_locks.specs.TouchedParts.{Comes, Touches, missed_at, seen_by, marked_by}
use Rattle.var_locks.proofs.KeptSeats.{notes_more, seat_of}
use Rattle.var_locks.proofs.Bounding.{on_counted}
use Rattle.var_locks.proofs.SlotLists.{first_same}

module _ {V : Type 0} (me : Me (VarPart V) (View V)) (a : Access) (part : ThreadPart) (seen : List ℕ)
    (marks : List (Option ℕ)) (kept : IsKept me a.thread part seen marks false) (x : VarPart V) where
  on_kept : (n : Note V) → IsCounted n.after
      → IsKept (noted_view (with_hand me.0 a.var x) n, []) a.thread n.after (seen_after seen n.trace)
      (marks ++ mark_in n.trace ∷ []) false
  on_kept n counted = record {
    alone =
        ap (λ (l : List (Share V)). note_shares l n) kept.alone
        ∙ ap (λ (l : List (Note V)).
        (let y : Share V = record { thread = a.thread; notes = l; part = n.after; ended = false } in y) ∷ [])
        (sym (notes_more me a.thread part seen marks false kept n));
    empty = refl;
    slots = refl;
    seen_is = ap (λ (s : List ℕ). seen_after s n.trace) kept.seen_is;
    marks_are =
        ap (λ (l : List (Option ℕ)). l ++ mark_in n.trace ∷ []) kept.marks_are
        ∙ ap marks_of (sym (notes_more me a.thread part seen marks false kept n));
    counted = counted;
  }

  module _ (m : Meaning V) (guide : List Lane) (after : ThreadPart) (new : Me (VarPart V) (View V)) where
    left_kept : new ≡ (empty_hand (with_hand me.0 a.var x), []) → after ≡ part
        → IsKept new a.thread after seen marks false
    left_kept token same = subst (λ (z : Me (VarPart V) (View V)). IsKept z a.thread after seen marks false) (sym token)
        (subst (λ (z : ThreadPart). IsKept (empty_hand (with_hand me.0 a.var x), []) a.thread z seen marks false)
        (sym same) (record {
          alone = kept.alone;
          empty = refl;
          slots = refl;
          seen_is = kept.seen_is;
          marks_are = kept.marks_are;
          counted = kept.counted;
        }))

    missed_kept : (e : MissedEntry) → new ≡ (empty_hand (missed_view (with_hand me.0 a.var x) e), []) → after ≡ part
        → IsKept new a.thread after seen marks false
    missed_kept e token same =
        subst (λ (z : Me (VarPart V) (View V)). IsKept z a.thread after seen marks false) (sym token)
        (subst (λ (z : ThreadPart).
        IsKept (empty_hand (missed_view (with_hand me.0 a.var x) e), []) a.thread z seen marks false)
        (sym same) (record {
          alone = kept.alone;
          empty = refl;
          slots = refl;
          seen_is = kept.seen_is;
          marks_are = kept.marks_are;
          counted = kept.counted;
        }))

    -- what the seat keeps after a touch or a read
    pub comes_kept : moves_made part < 2 ^ 56 → (r : Touched)
        → Comes m guide a part after (with_hand me.0 a.var x, (a.var, x) ∷ []) new r
        → IsKept new a.thread after (seen_by seen r) (marked_by marks r) false
    comes_kept room (touched.Did e) (y, slots, made) = subst (λ (z : Me (VarPart V) (View V)).
        IsKept z a.thread after (sees_what seen e.what) (marked_by marks (touched.Did e)) false) (sym made.token)
        (on_kept (note_on part after (trace.Did e) (with_hand me.0 a.var x))
        (on_counted m a.thread (note_on part after (trace.Did e) (with_hand me.0 a.var x)) kept.counted room a.var y
        made.left made.place e made.on))
    comes_kept room (touched.Blocked u k) made =
        missed_kept (missed_at u k a.var made.found.places) made.token made.part
    comes_kept room touched.NoMemory made = left_kept made.token made.part

    -- and what is seen of it
    pub comes_touches : (round : TableId) → slice_index me.0.seen a.var ≤ x.places → (r : Touched)
        → Comes m guide a part after (with_hand me.0 a.var x, (a.var, x) ∷ []) new r
        → Touches m guide (seat_of me a.thread part seen false round)
        (seat_of new a.thread after (seen_by seen r) false round) r
    comes_touches round above (touched.Did e) (y, slots, made) =
        let same : x ≡ y = first_same slots in record {
          var = a.var;
          found = x;
          left = made.left;
          place = made.place;
          on = subst (λ (z : VarPart V). IsOnVariable m a.thread a.var
              (note_on part after (trace.Did e) (with_hand me.0 a.var x)) z made.left made.place e) (sym same) made.on;
          guided = made.guided;
          above = subst (λ (l : List ℕ). slice_index l a.var ≤ x.places) kept.seen_is above;
          seat =
              ap
              (λ (z : Me (VarPart V) (View V)). seat_of z a.thread after (sees_what seen e.what) false round) made.token
              ∙ ap (λ (l : List (Note V)).
              let s : Seated V = record {
                thread = a.thread;
                part = after;
                notes = l;
                seen = sees_what seen e.what;
                missing = me.0.missing;
                ended = false;
                round = round;
              } in
              s)
              (notes_more me a.thread part seen marks false kept
              (note_on part after (trace.Did e) (with_hand me.0 a.var x)));
        }
    comes_touches round above (touched.Blocked u k) made = record {
      var = a.var;
      read = a.read;
      place = a.place;
      found = made.found;
      inside = made.wanted.low;
      hand = made.wanted.hand;
      next = made.wanted.next;
      waits = made.waits;
      above = subst (λ (z : VarPart V). slice_index seen a.var ≤ z.places) (first_same made.slots)
          (subst (λ (l : List ℕ). slice_index l a.var ≤ x.places) kept.seen_is above);
      seat =
          ap (λ (z : Me (VarPart V) (View V)). seat_of z a.thread after seen false round) made.token
          ∙ ap (λ (z : ThreadPart).
          let s : Seated V = record {
            thread = a.thread;
            part = z;
            notes = first_notes me.0.shares;
            seen = seen;
            missing = missed_at u k a.var made.found.places ∷ me.0.missing;
            ended = false;
            round = round;
          } in
          s) made.part;
    }
    comes_touches round above touched.NoMemory made =
        ap (λ (z : Me (VarPart V) (View V)). seat_of z a.thread after seen false round) made.token
        ∙ ap (λ (z : ThreadPart). seat_of me a.thread z seen false round) made.part
