-- What a round comes to: whatever the seats did is one legal run.
use Rattle.std.specs.Prelude.{◌≡◌, ℕ, ◌+◌, ◌<◌, ◌≤◌, ◌⊎◌, true, cond, nat_eq, Ok}
use Rattle.std.specs.Prelude.{List, [], ◌∷◌, Option, map, length, slice_index_or}
use Rattle.plain_text.specs.declared.packet.Packet.{Packet}
use Rattle.entry_order.specs.declared.what.What.{What}
use Rattle.access_log.specs.Held.{Lane}
use Rattle.plain_machine.specs.declared.plain_move.PlainMove.{PlainMove}
use Rattle.plain_machine.specs.Program.{Meaning}
use Rattle.plain_machine.specs.History.{Step, play}
use Rattle.box_program.specs.Hands.{FitsProgram}
use Rattle.master_core.specs.declared.parts.VarPart.{VarPart}
use Rattle.master_core.specs.declared.parts.ThreadPart.{ThreadPart}
use Rattle.master_core.specs.Mastered.{Mastered, IsBounded, value_of}
use Rattle.master_core.specs.MasterStanding.{Stands}
use Rattle.replay_guide.specs.Following.{Follows}
use Rattle.atomic_table.specs.Seated.{TableId}
use Rattle.round_order.specs.Receipts.{Receipt, Receipts, after}
use Rattle.round_order.specs.Linked.{IsKnown, IsLinked}
use Rattle.round_order.specs.Woven.{IsWoven, GoesOn}
use Rattle.var_locks.specs.declared.view.Note.{Note}
use Rattle.var_locks.specs.declared.view.MissedEntry.{MissedEntry}
use Rattle.var_locks.specs.declared.view.View.{View}
use Rattle.var_locks.specs.Notes.{read_notes, AreFed, marks_of}
use Rattle.var_locks.specs.Views.{HasShare, IsMissed}
use Rattle.var_locks.specs.Seats.{Seated}

-- one seat of this round for each thread from this one on, each ended
abbrev pub AreSeats : {V : Type 0} → TableId → ℕ → List (Seated V) → Type 0
AreSeats round t [] = Unit {0}
AreSeats round t (x ∷ others) = (x.thread ≡ t) × (x.round ≡ round) × (x.ended ≡ true) × AreSeats round (t + 1) others

-- the seat's share and what it found missing are in the view
pub record HasSeat {V : Type 0} (w : View V) (x : Seated V) : Type 0 where
  pub share : HasShare (record { thread = x.thread; notes = x.notes; part = x.part; ended = x.ended }) w.shares
  pub missing : (e : MissedEntry) → IsMissed e x.missing → IsMissed e w.missing

abbrev pub HasSeats : {V : Type 0} → View V → List (Seated V) → Type 0
HasSeats w [] = Unit {0}
HasSeats w (x ∷ others) = HasSeat w x × HasSeats w others

abbrev pub seat_part : {V : Type 0} → Seated V → ThreadPart
seat_part x = x.part

-- the marks of what the seat's thread did, oldest first
abbrev pub seat_marks : {V : Type 0} → Seated V → List (Option ℕ)
seat_marks x = marks_of x.notes

-- the notes of a thread
abbrev pub notes_at : {V : Type 0} → List (Seated V) → ℕ → List (Note V)
notes_at [] t = []
notes_at (x ∷ others) t = cond (nat_eq x.thread t) x.notes (notes_at others t)

-- the receipts that the notes of the seats are after a past
abbrev pub receipts_of : {V : Type 0} → Meaning V → List (Step V) → List (Seated V) → Receipts V
receipts_of m past seats t = read_notes m past t (notes_at seats t)

-- each packet that was passed is the thread's input
abbrev pub AreAllFed : {V : Type 0} → (ℕ → List Packet) → List (Seated V) → Type 0
AreAllFed inputs [] = Unit {0}
AreAllFed inputs (x ∷ others) = AreFed (inputs x.thread) x.notes × AreAllFed inputs others

-- one of the seats found this entry missing
abbrev pub FoundMissing : {V : Type 0} → List (Seated V) → MissedEntry → Type 0
FoundMissing [] e = ⊥
FoundMissing (x ∷ others) e = IsMissed e x.missing ⊎ FoundMissing others e

-- The receipts weave into a legal continuation, for which the master stands.
pub record Weaves {V : Type 0} (m : Meaning V) (inputs : ℕ → List Packet) (threads : ℕ) (moves : List PlainMove)
    (past : List (Step V)) (rs : Receipts V) (q : Mastered V) : Type 0 where
  pub linked : IsLinked m inputs threads past rs
  pub order : List (Receipt V)
  pub woven : IsWoven rs order
  pub goes_on : GoesOn m inputs threads moves past order
  pub stands : Stands m threads (after order past) q

-- Of each legal list of moves that the opening master p stands for, with inputs that have the packets that were passed:
-- what the seats did weaves into a continuation of it for which q stands; and no entry that a seat found missing is in
-- either.
pub record Closes {V : Type 0} (m : Meaning V) (guide : List Lane) (p : Mastered V) (seats : List (Seated V))
    (q : Mastered V) (inputs : ℕ → List Packet) (moves : List PlainMove) (past : List (Step V)) : Type 0 where
  pub weaves : Weaves m inputs (length p.threads) moves past (receipts_of m past seats) q
  pub missing : (e : MissedEntry) (what : What) (stamp : ℕ → ℕ) → FoundMissing seats e
      → Follows guide e.thread e.number what
      → IsKnown past (receipts_of m past seats) (record { thread = e.thread; number = e.number; what = what }) stamp → ⊥

-- However the threads ran. Where an entry was found missing, its variable was touched no less often in the end than
-- then.
pub record IsClosed {V : Type 0} (m : Meaning V) (fits : ℕ → V → Type 0) (guide : List Lane) (p : Mastered V)
    (seats : List (Seated V)) (q : Mastered V) : Type 0 where
  pub bounded : IsBounded q.vars q.threads
  pub fit : FitsProgram m fits value_of q.vars
  pub threads : q.threads ≡ map seat_part seats
  pub touched : (e : MissedEntry) (d : VarPart V) → FoundMissing seats e
      → (e.var < length q.vars) × (e.places ≤ (slice_index_or q.vars e.var d).places)
  pub closes : (inputs : ℕ → List Packet) (moves : List PlainMove) (past : List (Step V))
      → play m inputs (length p.threads) moves ≡ Ok past → Stands m (length p.threads) past p → AreAllFed inputs seats
      → Closes m guide p seats q inputs moves past
