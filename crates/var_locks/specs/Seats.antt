-- What is seen of a seat of a round.
use Rattle.std.specs.Prelude.{◌≡◌, ℕ, ◌<◌, ◌≤◌, ◌^◌, Bool, false, List, [], ◌∷◌, Option, None}
use Rattle.plain_text.specs.declared.packet.Packet.{Packet}
use Rattle.access_log.specs.Held.{Lane}
use Rattle.plain_machine.specs.Program.{Meaning}
use Rattle.master_core.specs.declared.step.Trace.{Trace}
use Rattle.master_core.specs.declared.parts.VarPart.{VarPart}
use Rattle.master_core.specs.declared.parts.ThreadPart.{ThreadPart}
use Rattle.master_core.specs.Mastered.{in_hand_count, moves_made}
use Rattle.atomic_table.specs.Table.{Me}
use Rattle.atomic_table.specs.Seated.{TableId}
use Rattle.var_locks.specs.declared.view.Note.{Note}
use Rattle.var_locks.specs.declared.view.Share.{Share}
use Rattle.var_locks.specs.declared.view.MissedEntry.{MissedEntry}
use Rattle.var_locks.specs.declared.view.View.{View}
use Rattle.var_locks.specs.Notes.{IsOwn, IsGuided, own_note, marks_of}
use Rattle.var_locks.specs.Rounds.{Opened}

-- Its thread, with the part that it has now and the notes of its moves in the round, newest first; of each variable, as
-- often as the seat saw it touched; the followed entries that it found missing; whether it ended; and the round that it
-- is of.
pub record Seated (V : Type 0) : Type 0 where
  pub thread : ℕ
  pub part : ThreadPart
  pub notes : List (Note V)
  pub seen : List ℕ
  pub missing : List MissedEntry
  pub ended : Bool
  pub round : TableId

abbrev pub first_notes : {V : Type 0} → List (Share V) → List (Note V)
first_notes [] = []
first_notes (x ∷ others) = x.notes

-- the share of the seat's thread, by what the seat keeps
abbrev pub share_of : {V : Type 0} → View V → ℕ → ThreadPart → Bool → Share V
share_of w thread part ended = record { thread = thread; notes = first_notes w.shares; part = part; ended = ended }

-- the counts of a thread are within their bounds
pub record IsCounted (part : ThreadPart) : Type 0 where
  pub held : in_hand_count part.hand ≤ part.counts.taken
  pub made : moves_made part ≤ 2 ^ 56

-- The seat's token has its one thread, nothing in hand, and has seen what the seat keeps; and the seat keeps the marks
-- of the moves, with counts that are within their bounds.
pub record IsKept {V : Type 0} (me : Me (VarPart V) (View V)) (thread : ℕ) (part : ThreadPart) (seen : List ℕ)
    (marks : List (Option ℕ)) (ended : Bool) : Type 0 where
  pub alone : me.0.shares ≡ share_of me.0 thread part ended ∷ []
  pub empty : me.0.hand ≡ None
  pub slots : me.1 ≡ []
  pub seen_is : me.0.seen ≡ seen
  pub marks_are : marks ≡ marks_of (first_notes me.0.shares)
  pub counted : IsCounted part

-- the seat is of the round of these variables
pub record IsSeatOf {V : Type 0} (vars : Opened) (x : Seated V) : Type 0 where
  pub round_is : x.round ≡ vars.round
  pub low : x.thread < vars.threads

-- the seat is of that round, did not end it, and has room for a move
pub record MayMove {V : Type 0} (vars : Opened) (x : Seated V) : Type 0 where
  pub of : IsSeatOf vars x
  pub going : x.ended ≡ false
  pub room : moves_made x.part < 2 ^ 56

-- The seat made this move, on no variable: its part is what the move left, and it has one more note.
pub record HasMade {V : Type 0} (m : Meaning V) (guide : List Lane) (old : Seated V) (tr : Trace)
    (packet : Option Packet) (new : Seated V) : Type 0 where
  pub own : IsOwn {V = V} m old.thread (own_note old.part new.part tr packet)
  pub guided : IsGuided {V = V} guide old.thread (own_note old.part new.part tr packet)
  pub seat : new ≡ record {
    thread = old.thread;
    part = new.part;
    notes = own_note old.part new.part tr packet ∷ old.notes;
    seen = old.seen;
    missing = old.missing;
    ended = old.ended;
    round = old.round;
  }
