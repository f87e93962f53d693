-- What one call of a worker came to.
use Rattle.std.specs.Prelude.{◌≡◌, ℕ, ◌+◌, List, ◌∷◌, Option, Some, None, slice_get}
use Rattle.rand_pcg.specs.Lcg.{Lcg}
use Rattle.plain_text.specs.declared.packet.Packet.{Packet}
use Rattle.access_log.specs.Held.{Lane}
use Rattle.plain_machine.specs.declared.local.Local.{Local}
use Rattle.plain_machine.specs.Program.{Meaning}
use Rattle.master_core.specs.declared.parts.ThreadPart.{ThreadPart}
use Rattle.master_core.specs.declared.parts.Counts.{Counts}
use Rattle.master_core.specs.declared.wants.Wants.{Wants}
use Rattle.master_core.specs.declared.wants.Wants.TheVariants as wants
use Rattle.master_core.specs.declared.step.Stepped.{Stepped}
use Rattle.master_core.specs.declared.step.Stepped.TheVariants as stepped
use Rattle.var_locks.specs.declared.view.Note.{Note}
use Rattle.var_locks.specs.declared.view.MissedEntry.{MissedEntry}
use Rattle.var_locks.specs.declared.touching.Touched.{Touched}
use Rattle.var_locks.specs.declared.touching.Touched.TheVariants as touched
use Rattle.var_locks.specs.Notes.{IsGuided, input_number, told_by}
use Rattle.var_locks.specs.Seats.{Seated}
use Rattle.round_join.specs.declared.noting.Made.{Made}
use Rattle.round_events.specs.Done.{IsDone}
use Rattle.round_events.specs.Shown.{IsShown}
use Rattle.round_events.specs.Blocked.{IsStuck}
use Rattle.live_workers.specs.Telling.{IsTold}

-- the packet that the note was made with is the thread's input of its number
abbrev pub IsFedTo : {V : Type 0} → List Packet → Note V → Type 0
IsFedTo packets n = (packet : Packet) → n.packet ≡ Some packet → slice_get packets (input_number n.before) ≡ Some packet

-- a packet in hand is the last input that the thread took
abbrev pub HasInput : List Packet → ThreadPart → Type 0
HasInput packets part =
    (place : Local) → part.hand ≡ Some place
    → (k : ℕ) × (packet : Packet) × (part.counts.taken ≡ k + 1) × (slice_get packets k ≡ Some packet)

-- no packet is in hand, and none comes next
abbrev pub IsAtRest : List Packet → ThreadPart → Type 0
IsAtRest packets part = (part.hand ≡ None) × (slice_get packets part.counts.taken ≡ None)

-- which input of a thread its next move is made with that wants this, and did so much
abbrev pub input_wanted : Wants → Counts → ℕ
input_wanted (wants.Take k) counts = k
input_wanted (wants.Touch n v s) counts = counts.taken
input_wanted (wants.Read n v s) counts = counts.taken
input_wanted (wants.Clock n) counts = counts.taken
input_wanted (wants.Draw n) counts = counts.taken
input_wanted wants.Emit counts = counts.taken
input_wanted wants.End counts = counts.taken

-- what a touch shows
abbrev pub touch_shown : Touched → Stepped
touch_shown (touched.Did e) = stepped.Did e
touch_shown (touched.Blocked u k) = stepped.NotTurn u k
touch_shown touched.NoMemory = stepped.NoMemory

-- what a move was told, by what its call showed
abbrev pub answer_shown : Stepped → Option ℕ
answer_shown (stepped.Took k) = None
answer_shown (stepped.Did e) = told_by e.what
answer_shown (stepped.Emitted o) = None
answer_shown (stepped.Ended k) = None
answer_shown stepped.Idle = None
answer_shown (stepped.NotTurn u n) = None
answer_shown stepped.NoMemory = None

-- the move of a thread that showed so
abbrev pub made_by : ℕ → Stepped → Made
made_by t r = record { thread = t; answer = answer_shown r; stepped = r }

-- The seat made one more move, which the call answered.
pub record OneMore {V : Type 0} (m : Meaning V) (guide : List Lane) (packets : List Packet) (may : ℕ → Type 0)
    (old : Seated V) (g : Lcg) (new : Seated V) (g_new : Lcg) (r : Stepped) : Type 0 where
  pub note : Note V
  pub seat : new ≡ record {
    thread = old.thread;
    part = note.after;
    notes = note ∷ old.notes;
    seen = new.seen;
    missing = old.missing;
    ended = old.ended;
    round = old.round;
  }
  pub before : note.before ≡ old.part
  pub done : IsDone m old.thread note
  pub guided : IsGuided guide old.thread note
  pub shown : IsShown m old.thread note r
  pub fed : IsFedTo packets note
  pub told : IsTold may guide old.thread r g g_new

-- the seat made no move: the guide says to wait for an entry that is missing
pub record IsHeld {V : Type 0} (m : Meaning V) (guide : List Lane) (old new : Seated V) : Type 0 where
  pub entry : MissedEntry
  pub stuck : IsStuck m guide new entry
  pub seat : new ≡ record old { missing = new.missing }

-- what the call came to
abbrev pub ComesTo : {V : Type 0} → Meaning V → List Lane → List Packet → (ℕ → Type 0) → Seated V → Lcg → Seated V
    → Lcg → Stepped → Type 0
ComesTo m guide packets may old g new g_new (stepped.Took k) =
    OneMore m guide packets may old g new g_new (stepped.Took k)
ComesTo m guide packets may old g new g_new (stepped.Did e) =
    OneMore m guide packets may old g new g_new (stepped.Did e)
ComesTo m guide packets may old g new g_new (stepped.Emitted o) =
    OneMore m guide packets may old g new g_new (stepped.Emitted o)
ComesTo m guide packets may old g new g_new (stepped.Ended k) =
    OneMore m guide packets may old g new g_new (stepped.Ended k)
ComesTo m guide packets may old g new g_new stepped.Idle = (new ≡ old) × (g_new ≡ g) × IsAtRest packets old.part
ComesTo m guide packets may old g new g_new (stepped.NotTurn u n) = IsHeld m guide old new × (g_new ≡ g)
ComesTo m guide packets may old g new g_new stepped.NoMemory = new ≡ old
