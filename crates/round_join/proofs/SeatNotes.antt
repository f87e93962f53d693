-- The receipts of each thread of a round beside the moves that it made.
use Rattle.std.proofs.Common.{◌≡◌, ◌≢◌, ℕ, zero, suc, ◌+◌, List, [], ◌∷◌, refl, sym}
use Rattle.std.proofs.Common.{subst, cond, Bool, Option, Some, arith}
use Rattle.std.specs.Prelude.{slice_get, slice_index_or}
use Rattle.plain_text.specs.declared.packet.Packet.{Packet}
use Rattle.access_log.specs.Held.{Lane}
use Rattle.plain_machine.specs.Program.{Meaning}
use Rattle.plain_machine.specs.History.{Step, thread_after}
use Rattle.plain_machine.proofs.Histories.{is_eq, not_eq}
use Rattle.master_core.specs.declared.parts.ThreadPart.{ThreadPart}
use Rattle.atomic_table.specs.Seated.{TableId}
use Rattle.round_order.specs.Receipts.{Receipt, after}
use Rattle.var_locks.specs.declared.view.Note.{Note}
use Rattle.var_locks.specs.Notes.{IsGuided, AreFed, input_number, read_note, read_notes}
use Rattle.var_locks.specs.Seats.{Seated}
use Rattle.var_locks.specs.Closing.{AreSeats, AreAllFed, notes_at}
use Rattle.round_events.specs.Done.{IsDone, AreDone}
use Rattle.round_events.proofs.Stamping.{newest_stamp}
use Rattle.round_join.specs.declared.noting.Made.{Made}
use Rattle.round_join.specs.Working.{IsMadeBy, AreMadeBy, AllWork}
use Rattle.round_join.proofs.DrawnTurns.{AreBoth}
use Rattle.round_join.proofs.DoneParts.{HasPart, Leaves, note_leaves, part_of}

-- each packet that was passed was the thread's input
pub all_fed : {V : Type 0} (m : Meaning V) (guide : List Lane) (inputs : ℕ → List Packet) (parts : List ThreadPart)
    (seats : List (Seated V)) (lists : List (List Made)) → AllWork m guide inputs parts seats lists
    → AreAllFed inputs seats
all_fed m guide inputs [] [] [] works = tt
all_fed m guide inputs [] [] (l ∷ lists) works = absurd works
all_fed m guide inputs [] (x ∷ seats) lists works = absurd works
all_fed m guide inputs (p ∷ parts) [] lists works = absurd works
all_fed m guide inputs (p ∷ parts) (x ∷ seats) [] works = absurd works
all_fed m guide inputs (p ∷ parts) (x ∷ seats) (l ∷ lists) works =
    (works.0.fed, all_fed m guide inputs parts seats lists works.1)

-- What thread t did, which had this part at first: these notes, and these moves.
pub record Did {V : Type 0} (m : Meaning V) (guide : List Lane) (inputs : ℕ → List Packet) (t : ℕ) (first : ThreadPart)
    (notes : List (Note V)) (moves : List Made) : Type 0 where
  pub last : ThreadPart
  pub done : AreDone m guide t first notes last
  pub fed : AreFed (inputs t) notes
  pub made : AreMadeBy m t notes moves

-- the seat of a thread
did_from : {V : Type 0} (m : Meaning V) (guide : List Lane) (inputs : ℕ → List Packet) (round : TableId) (k : ℕ)
    (parts : List ThreadPart) (seats : List (Seated V)) (lists : List (List Made)) (i : ℕ) (d : ThreadPart)
    → AreSeats round k seats → AllWork m guide inputs parts seats lists
    → Did m guide inputs (k + i) (slice_index_or parts i d) (notes_at seats (k + i)) (slice_index_or lists i [])
did_from m guide inputs round k [] [] [] i d are works = record { last = d; done = refl; fed = tt; made = tt }
did_from m guide inputs round k [] [] (l ∷ lists) i d are works = absurd works
did_from m guide inputs round k [] (x ∷ seats) lists i d are works = absurd works
did_from m guide inputs round k (p ∷ parts) [] lists i d are works = absurd works
did_from m guide inputs round k (p ∷ parts) (x ∷ seats) [] i d are works = absurd works
did_from {V} m guide inputs round k (p ∷ parts) (x ∷ seats) (l ∷ lists) zero d are works =
    let at : x.thread ≡ k + 0 = omega (arith, are.0) in
    let mine : Did m guide inputs x.thread p x.notes l =
    record { last = x.part; done = works.0.done; fed = works.0.fed; made = works.0.made } in
    subst (λ (b : Bool). Did m guide inputs (k + 0) p (cond b x.notes (notes_at seats (k + 0))) l)
    (sym (is_eq x.thread (k + 0) at)) (subst (λ (t : ℕ). Did m guide inputs t p x.notes l) at mine)
did_from {V} m guide inputs round k (p ∷ parts) (x ∷ seats) (l ∷ lists) (suc i) d are works =
    let apart : x.thread ≢ k + suc i = λ same. let first = are.0 in omega (arith, first, same) in
    let next : k + 1 + i ≡ k + suc i = omega arith in
    subst (λ (b : Bool). Did m guide inputs (k + suc i) (slice_index_or parts i d)
    (cond b x.notes (notes_at seats (k + suc i))) (slice_index_or lists i [])) (sym (not_eq x.thread (k + suc i) apart))
    (subst (λ (t : ℕ). Did m guide inputs t (slice_index_or parts i d) (notes_at seats t) (slice_index_or lists i []))
    next (did_from m guide inputs round (k + 1) parts seats lists i d are.3 works.1))

pub did_at : {V : Type 0} (m : Meaning V) (guide : List Lane) (inputs : ℕ → List Packet) (round : TableId)
    (parts : List ThreadPart) (seats : List (Seated V)) (lists : List (List Made)) (t : ℕ) (d : ThreadPart)
    → AreSeats round 0 seats → AllWork m guide inputs parts seats lists
    → Did m guide inputs t (slice_index_or parts t d) (notes_at seats t) (slice_index_or lists t [])
did_at {V} m guide inputs round parts seats lists t d are works =
    let start : 0 + t ≡ t = omega arith in
    subst (λ (u : ℕ). Did m guide inputs u (slice_index_or parts t d) (notes_at seats u) (slice_index_or lists t []))
    start (did_from m guide inputs round 0 parts seats lists t d are works)

module _ {V : Type 0} (m : Meaning V) (guide : List Lane) (inputs : ℕ → List Packet) (past : List (Step V))
    (first : ℕ → ThreadPart) where
  -- the receipt of thread t, which had the others before it, beside its move: both are of one note
  pub record IsBeside (t : ℕ) (r : Receipt V) (rest : List (Receipt V)) (x : Made) : Type 0 where
    pub note : Note V
    pub is : r ≡ read_note m t (thread_after (after rest past) t).hand note
    pub leaves : Leaves t note r x.answer
    pub made : IsMadeBy m t note x
    pub done : IsDone m t note
    pub guided : IsGuided guide t note
    pub fed : (packet : Packet) → note.packet ≡ Some packet
        → slice_get (inputs t) (input_number note.before) ≡ Some packet
    pub before : HasPart (after rest past) t (newest_stamp (first t).stamp rest) note.before

  pub are_beside : (t : ℕ) (notes : List (Note V)) (moves : List Made) (last : ThreadPart)
      → HasPart past t (first t).stamp (first t) → AreDone m guide t (first t) notes last → AreFed (inputs t) notes
      → AreMadeBy m t notes moves → AreBoth IsBeside t (read_notes m past t notes) moves
  are_beside t [] [] last opens done fed made = tt
  are_beside t [] (x ∷ moves) last opens done fed made = absurd made
  are_beside t (n ∷ notes) [] last opens done fed made = absurd made
  are_beside t (n ∷ notes) (x ∷ moves) last opens (same, done, guided, earlier) fed made = (
    record {
      note = n;
      is = refl;
      leaves = subst
          (λ (a : Option ℕ).
          Leaves t n (read_note m t (thread_after (after (read_notes m past t notes) past) t).hand n) a)
          (sym made.0.answer)
          (note_leaves m t n (thread_after (after (read_notes m past t notes) past) t).hand done);
      made = made.0;
      done = done;
      guided = guided;
      fed = fed.0;
      before = part_of m guide past t (first t) notes n.before opens earlier;
    },
    are_beside t notes moves n.before opens earlier fed.1 made.1,
  )

  -- a thread without receipts made no move
  pub none_beside : (t : ℕ) (notes : List (Note V)) (moves : List Made) → read_notes m past t notes ≡ []
      → AreMadeBy m t notes moves → AreBoth IsBeside t (read_notes m past t notes) moves
  none_beside t [] [] none made = tt
  none_beside t [] (x ∷ moves) none made = absurd made
  none_beside t (n ∷ notes) moves none made = absurd (cc)
