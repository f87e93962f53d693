-- The marks of what the threads of a round did, one by one, and that they are those of its receipts.
use Rattle.std.proofs.Common.{◌≡◌, ◌≢◌, ℕ, zero, suc, ◌+◌, ◌<◌, ◌≤◌, List, [], ◌∷◌, ◌++◌, length, map}
use Rattle.std.proofs.Common.{refl, sym, ap, ◌∙◌, subst, arith, Bool, true, false, cond, nat_eq, Option, Some, None}
use Rattle.std.specs.Prelude.{All, slice_index_or}
use Rattle.std.proofs.Math.Nat.{mod-eq_of_lt}
use Rattle.entry_order.specs.declared.what.What.{What}
use Rattle.entry_order.specs.declared.what.What.TheVariants as what
use Rattle.access_log.specs.declared.entry.StampedEntry.{StampedEntry}
use Rattle.plain_machine.specs.Program.{Meaning}
use Rattle.plain_machine.specs.Machine.{Hand}
use Rattle.plain_machine.specs.History.{Step, thread_after}
use Rattle.plain_machine.proofs.Histories.{is_eq, not_eq}
use Rattle.master_core.specs.declared.step.Trace.{Trace}
use Rattle.master_core.specs.declared.step.Trace.TheVariants as trace
use Rattle.atomic_table.specs.Seated.{TableId}
use Rattle.replay_guide.specs.Orders.{weight_of}
use Rattle.round_order.specs.Receipts.{Receipt, after}
use Rattle.round_order.specs.Turns.{AreMarked, AreMarksOf}
use Rattle.round_order.specs.Turns.{mark_of as receipt_mark}
use Rattle.var_locks.specs.declared.view.Note.{Note}
use Rattle.var_locks.specs.Notes.{packet_in, entry_receipt, receipt_by, read_note, read_notes, mark_in, marks_of}
use Rattle.var_locks.specs.Seats.{Seated}
use Rattle.var_locks.specs.Closing.{AreSeats, seat_marks, notes_at, receipts_of}
use Rattle.round_join.specs.Marking.{IsLight, AreLight}

-- Marks stay as more come behind them.

at_before : {A : Type 0} (xs ys : List A) (k : ℕ) (d : A) → k < length xs
    → slice_index_or (xs ++ ys) k d ≡ slice_index_or xs k d
at_before [] ys k d low = absurd (omega arith)
at_before (x ∷ xs) ys zero d low = refl
at_before (x ∷ xs) ys (suc k) d low = at_before xs ys k d (omega arith)

at_end : {A : Type 0} (xs : List A) (y d : A) → slice_index_or (xs ++ y ∷ []) (length xs) d ≡ y
at_end [] y d = refl
at_end (x ∷ xs) y d = at_end xs y d

one_longer : {A : Type 0} (xs : List A) (y : A) → length (xs ++ y ∷ []) ≡ length xs + 1
one_longer [] y = refl
one_longer (x ∷ xs) y = let k = one_longer xs y in omega (arith, k)

marked_more : {V : Type 0} (rs : List (Receipt V)) (xs ys : List (Option ℕ)) (n : ℕ) → n ≤ length xs → AreMarked rs xs n
    → AreMarked rs (xs ++ ys) n
marked_more [] xs ys n low is = is
marked_more (r ∷ earlier) xs ys n low (k, count, mark, rest) = (
  k,
  count,
  at_before xs ys k None (omega (arith, low, count)) ∙ mark,
  marked_more earlier xs ys k (omega (arith, low, count)) rest,
)

-- The mark of a note's receipt is that of what it left.
note_mark : {V : Type 0} (m : Meaning V) (t : ℕ) (hand : Option Hand) (n : Note V) → IsLight n.trace
    → receipt_mark (read_note m t hand n) ≡ mark_in n.trace
unfolding weight_of
note_mark {V} m t hand n light = go n.trace light
  where
    entry : (e : StampedEntry) (w : What) → receipt_mark (entry_receipt m t (packet_in hand) n e w) ≡ Some (weight_of e)
    entry e (what.Access v s) = refl
    entry e (what.Read v s) = refl
    entry e (what.Clock a) = refl
    entry e (what.Draw a) = refl

    go : (tr : Trace) → IsLight tr → receipt_mark (receipt_by m t (packet_in hand) n tr) ≡ mark_in tr
    go (trace.Took k) low = refl
    go (trace.Did e) low = entry e e.what ∙ ap Some (sym (mod-eq_of_lt low))
    go (trace.Emitted k) low = refl
    go (trace.Ended k) low = refl

are_marked : {V : Type 0} (m : Meaning V) (past : List (Step V)) (t : ℕ) (notes : List (Note V))
    → All (λ (n : Note V). IsLight n.trace) notes
    → AreMarked (read_notes m past t notes) (marks_of notes) (length (marks_of notes))
are_marked m past t [] light = refl
are_marked {V} m past t (n ∷ notes) light =
    let xs = marks_of notes in
    let hand = (thread_after (after (read_notes m past t notes) past) t).hand in (
      length xs,
      one_longer xs (mark_in n.trace),
      at_end xs (mark_in n.trace) None ∙ sym (note_mark m t hand n (light 0 n (omega arith))),
      marked_more (read_notes m past t notes) xs (mark_in n.trace ∷ []) (length xs) (omega arith)
          (are_marked m past t notes (λ i d low. light (suc i) d (omega (arith, low)))),
    )

-- the notes of each thread are light
light_at : {V : Type 0} (seats : List (Seated V)) (t : ℕ) → AreLight seats
    → All (λ (n : Note V). IsLight n.trace) (notes_at seats t)
light_at [] t light = λ i d low. absurd (omega (arith, low))
light_at {V} (x ∷ others) t light = go (nat_eq x.thread t) (light_at others t light.1)
  where
    go : (own : Bool) → All (λ (n : Note V). IsLight n.trace) (notes_at others t)
        → All (λ (n : Note V). IsLight n.trace) (cond own x.notes (notes_at others t))
    go true rest = light.0
    go false rest = rest

-- the list of a thread is that of its seat
list_at : {V : Type 0} (round : TableId) (k : ℕ) (seats : List (Seated V)) (i : ℕ) → AreSeats round k seats
    → slice_index_or (map seat_marks seats) i [] ≡ marks_of (notes_at seats (k + i))
list_at round k [] i are = refl
list_at {V} round k (x ∷ others) zero are =
    let at : x.thread ≡ k + 0 = omega (arith, are.0) in
    let own : nat_eq x.thread (k + 0) ≡ true = is_eq x.thread (k + 0) at in
    subst (λ (b : Bool). marks_of x.notes ≡ marks_of (cond b x.notes (notes_at others (k + 0)))) (sym own) refl
list_at {V} round k (x ∷ others) (suc i) are =
    let apart : x.thread ≢ k + suc i = λ same. let first = are.0 in omega (arith, first, same) in
    let other : nat_eq x.thread (k + suc i) ≡ false = not_eq x.thread (k + suc i) apart in
    let next : k + 1 + i ≡ k + suc i = omega arith in
    list_at round (k + 1) others i are.3
    ∙ ap (λ (t : ℕ). marks_of (notes_at others t)) next
    ∙ subst (λ (b : Bool).
    marks_of (notes_at others (k + suc i)) ≡ marks_of (cond b x.notes (notes_at others (k + suc i)))) (sym other) refl

pub seats_have_marks : {V : Type 0} (m : Meaning V) (past : List (Step V)) (round : TableId) (seats : List (Seated V))
    → AreSeats round 0 seats → AreLight seats → AreMarksOf (receipts_of m past seats) (map seat_marks seats)
seats_have_marks {V} m past round seats are light = λ t.
    let start : 0 + t ≡ t = omega arith in
    let list : slice_index_or (map seat_marks seats) t [] ≡ marks_of (notes_at seats t) =
    list_at round 0 seats t are ∙ ap (λ (u : ℕ). marks_of (notes_at seats u)) start in
    subst (λ (marks : List (Option ℕ)). AreMarked (read_notes m past t (notes_at seats t)) marks (length marks))
    (sym list) (are_marked m past t (notes_at seats t) (light_at seats t light))
