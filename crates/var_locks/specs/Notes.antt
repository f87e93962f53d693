-- What a note tells of the move of a thread: what it did to the part of its thread and to what it found, the receipt
-- that it is in a run, and how it keeps to what is followed.
use Rattle.std.specs.Prelude.{◌≡◌, ℕ, ◌+◌, ◌-◌, ◌⊎◌, Bool, true, false, List, [], ◌∷◌, ◌++◌, Option, Some, None, cond}
use Rattle.std.specs.Prelude.{◌%◌, ◌^◌, is_some, slice_get}
use Rattle.plain_text.specs.declared.packet.Packet.{Packet}
use Rattle.entry_order.specs.declared.what.What.{What}
use Rattle.entry_order.specs.declared.what.What.TheVariants as what
use Rattle.access_log.specs.declared.entry.StampedEntry.{StampedEntry}
use Rattle.access_log.specs.Held.{Lane, lane, entry_at}
use Rattle.plain_machine.specs.declared.local.Local.{Local}
use Rattle.plain_machine.specs.declared.local.Move.TheVariants as move
use Rattle.plain_machine.specs.Program.{Meaning}
use Rattle.plain_machine.specs.Machine.{Hand}
use Rattle.plain_machine.specs.History.{Step, thread_after}
use Rattle.master_core.specs.declared.parts.VarPart.{VarPart}
use Rattle.master_core.specs.declared.parts.ThreadPart.{ThreadPart}
use Rattle.master_core.specs.declared.step.Trace.{Trace}
use Rattle.master_core.specs.declared.step.Trace.TheVariants as trace
use Rattle.master_core.specs.Effects.{TouchesParts, ReadsParts, HearsPart, after_take, after_emit, after_end}
use Rattle.replay_guide.specs.Following.{recorded}
use Rattle.replay_guide.specs.Orders.{weight_of}
use Rattle.replay_guide.specs.Turns.{IsFollowed, IsFree}
use Rattle.round_order.specs.Receipts.{Receipt, after}
use Rattle.round_order.specs.PartMoves.{take_receipt, emit_receipt, end_receipt, hear_receipt, touch_receipt}
use Rattle.round_order.specs.PartMoves.{read_receipt}
use Rattle.var_locks.specs.declared.view.Note.{Note}

-- the note of a move on no variable
abbrev pub own_note : {V : Type 0} → ThreadPart → ThreadPart → Trace → Option Packet → Note V
own_note before after tr packet = record { before = before; after = after; trace = tr; packet = packet; found = None }

-- What the move did

-- Thread t was told this answer, which the entry has.
pub record IsHearing {V : Type 0} (m : Meaning V) (t : ℕ) (n : Note V) (e : StampedEntry) (what : What) (answer : ℕ)
    (place : Local) : Type 0 where
  pub hand : n.before.hand ≡ Some place
  pub hears : HearsPart m t what answer place n.before e n.after

-- the entry is of no variable: the thread was told an answer
abbrev pub IsOwnEntry : {V : Type 0} → Meaning V → ℕ → Note V → StampedEntry → What → Type 0
IsOwnEntry m t n e (what.Access v s) = ⊥
IsOwnEntry m t n e (what.Read v s) = ⊥
IsOwnEntry m t n e (what.Clock a) =
    (place : Local) × (m.next place ≡ move.Clock) × IsHearing m t n e (what.Clock a) a place
IsOwnEntry m t n e (what.Draw a) =
    (place : Local) × (m.next place ≡ move.Draw) × IsHearing m t n e (what.Draw a) a place

-- the thread took the packet that was passed
pub record IsTaking {V : Type 0} (m : Meaning V) (n : Note V) (k : ℕ) (packet : Packet) : Type 0 where
  pub hand : n.before.hand ≡ None
  pub passed : n.packet ≡ Some packet
  pub number : k ≡ n.before.counts.taken + 1
  pub thread : n.after ≡ after_take n.before (m.begin packet)

-- it sent the packet in hand out
pub record IsSending {V : Type 0} (m : Meaning V) (n : Note V) (k : ℕ) (place : Local) : Type 0 where
  pub hand : n.before.hand ≡ Some place
  pub next : m.next place ≡ move.Emit
  pub number : k ≡ n.before.counts.outputs + 1
  pub thread : n.after ≡ after_emit n.before (m.emitted place)

-- it ended it
pub record IsEnding {V : Type 0} (m : Meaning V) (n : Note V) (k : ℕ) (place : Local) : Type 0 where
  pub hand : n.before.hand ≡ Some place
  pub next : m.next place ≡ move.End
  pub number : k ≡ n.before.counts.taken
  pub thread : n.after ≡ after_end n.before

abbrev pub IsOwnBy : {V : Type 0} → Meaning V → ℕ → Note V → Trace → Type 0
IsOwnBy m t n (trace.Took k) = (packet : Packet) × IsTaking m n k packet
IsOwnBy m t n (trace.Did e) = IsOwnEntry m t n e e.what
IsOwnBy m t n (trace.Emitted k) = (place : Local) × IsSending m n k place
IsOwnBy m t n (trace.Ended k) = (place : Local) × IsEnding m n k place

-- The note is of a move of thread t on no variable.
abbrev pub IsOwn : {V : Type 0} → Meaning V → ℕ → Note V → Type 0
IsOwn m t n = IsOwnBy m t n n.trace

-- The note is of a touch of variable v, or of a read of it, that found x there and left y.
pub record IsOnVariable {V : Type 0} (m : Meaning V) (t v : ℕ) (n : Note V) (x y : VarPart V) (place : Local)
    (e : StampedEntry) : Type 0 where
  pub hand : n.before.hand ≡ Some place
  pub found : n.found ≡ Some x
  pub trace : n.trace ≡ trace.Did e
  pub does :
      ((m.next place ≡ move.Access v) × TouchesParts m t v place n.before x e n.after y)
      ⊎ ((m.next place ≡ move.Read v) × ReadsParts m t v place n.before x e n.after y)

-- The receipt that a note is

abbrev pub packet_in : Option Hand → Packet
packet_in None = record { seconds = 0; fraction = 0; original = 0; bytes = [] }
packet_in (Some h) = h.packet

abbrev pub packet_or : Option Packet → Packet
packet_or None = record { seconds = 0; fraction = 0; original = 0; bytes = [] }
packet_or (Some packet) = packet

abbrev pub place_or : Option Local → Local
place_or None = record { at = 0; regs = [] }
place_or (Some place) = place

abbrev pub found_or : {V : Type 0} → Meaning V → Option (VarPart V) → VarPart V
found_or m None = record { value = m.fresh 0; places = 0; stamp = []; readers = [] }
found_or m (Some x) = x

abbrev pub entry_receipt : {V : Type 0} → Meaning V → ℕ → Packet → Note V → StampedEntry → What → Receipt V
entry_receipt m t packet n e (what.Access v s) =
    touch_receipt m t n.before packet (place_or n.before.hand) v (found_or m n.found) e.stamp
entry_receipt m t packet n e (what.Read v s) =
    read_receipt m t n.before packet (place_or n.before.hand) v (found_or m n.found) e.stamp
entry_receipt m t packet n e (what.Clock a) =
    hear_receipt m t n.before packet (place_or n.before.hand) (what.Clock a) a e.stamp
entry_receipt m t packet n e (what.Draw a) =
    hear_receipt m t n.before packet (place_or n.before.hand) (what.Draw a) a e.stamp

abbrev pub receipt_by : {V : Type 0} → Meaning V → ℕ → Packet → Note V → Trace → Receipt V
receipt_by m t packet n (trace.Took k) = take_receipt m t n.before (packet_or n.packet)
receipt_by m t packet n (trace.Did e) = entry_receipt m t packet n e e.what
receipt_by m t packet n (trace.Emitted k) = emit_receipt m t n.before packet (place_or n.before.hand)
receipt_by m t packet n (trace.Ended k) = end_receipt m t n.before

-- the receipt that a note of thread t is, where this packet is in its hand
abbrev pub read_note : {V : Type 0} → Meaning V → ℕ → Option Hand → Note V → Receipt V
read_note m t hand n = receipt_by m t (packet_in hand) n n.trace

-- the receipts that the notes of thread t are after a history, newest first
abbrev pub read_notes : {V : Type 0} → Meaning V → List (Step V) → ℕ → List (Note V) → List (Receipt V)
read_notes m past t [] = []
read_notes m past t (n ∷ notes) =
    read_note m t (thread_after (after (read_notes m past t notes) past) t).hand n ∷ read_notes m past t notes

-- What was passed

-- the number of the input with which a thread that has this part makes its next move, counted from 0
abbrev pub input_number : ThreadPart → ℕ
input_number part = cond (is_some part.hand) (part.counts.taken - 1) part.counts.taken

-- each packet that was passed is the input with that number
abbrev pub AreFed : {V : Type 0} → List Packet → List (Note V) → Type 0
AreFed packets [] = Unit {0}
AreFed packets (n ∷ notes) =
    ((packet : Packet) → n.packet ≡ Some packet → slice_get packets (input_number n.before) ≡ Some packet)
    × AreFed packets notes

-- How it keeps to what is followed

-- the guide lets a touch or a read pass, where the variable was touched so often and this is the join of its reads
-- since
abbrev pub LetsPass : List Lane → ℕ → ℕ → ℕ → Bool → ℕ → List ℕ → Type 0
LetsPass guide t number v read places readers =
    IsFollowed guide t number v read places readers ⊎ IsFree guide t number v read places readers

-- the move on a variable did not have to wait
abbrev pub InTurn : {V : Type 0} → List Lane → ℕ → ℕ → ℕ → Bool → Option (VarPart V) → Type 0
InTurn {V} guide t number v read found =
    (x : VarPart V) → found ≡ Some x → LetsPass guide t number v read x.places x.readers

-- the answer is the recorded one, where one is
abbrev pub IsRecorded : List Lane → ℕ → ℕ → ℕ → Type 0
IsRecorded guide t number answer = (a : ℕ) → recorded (entry_at (lane guide t) number) ≡ Some a → answer ≡ a

abbrev pub IsGuidedEntry : {V : Type 0} → List Lane → ℕ → Note V → ℕ → What → Type 0
IsGuidedEntry guide t n number (what.Access v s) = InTurn guide t number v false n.found
IsGuidedEntry guide t n number (what.Read v s) = InTurn guide t number v true n.found
IsGuidedEntry guide t n number (what.Clock a) = IsRecorded guide t number a
IsGuidedEntry guide t n number (what.Draw a) = IsRecorded guide t number a

abbrev pub IsGuidedBy : {V : Type 0} → List Lane → ℕ → Note V → Trace → Type 0
IsGuidedBy guide t n (trace.Took k) = Unit {0}
IsGuidedBy guide t n (trace.Did e) = IsGuidedEntry guide t n e.number e.what
IsGuidedBy guide t n (trace.Emitted k) = Unit {0}
IsGuidedBy guide t n (trace.Ended k) = Unit {0}

-- Where the note is of a touch or a read, the guide did not say to wait at what it found; where it is of a followed
-- clock or draw, its answer is the recorded one.
abbrev pub IsGuided : {V : Type 0} → List Lane → ℕ → Note V → Type 0
IsGuided guide t n = IsGuidedBy guide t n n.trace

abbrev pub AreGuided : {V : Type 0} → List Lane → ℕ → List (Note V) → Type 0
AreGuided guide t [] = Unit {0}
AreGuided guide t (n ∷ notes) = IsGuided guide t n × AreGuided guide t notes

-- What the program keeps of it

abbrev pub told_by : What → Option ℕ
told_by (what.Access v s) = None
told_by (what.Read v s) = None
told_by (what.Clock a) = Some a
told_by (what.Draw a) = Some a

-- the answer that a move was told, by what it left
abbrev pub answer_in : Trace → Option ℕ
answer_in (trace.Took k) = None
answer_in (trace.Did e) = told_by e.what
answer_in (trace.Emitted k) = None
answer_in (trace.Ended k) = None

-- The mark of a move, by what it left: the weight of its entry, where it is logged. A mark has 64 bits, so the weight
-- is taken modulo 2^64; the weights of every run within the limits are far below.
abbrev pub mark_in : Trace → Option ℕ
mark_in (trace.Took k) = None
mark_in (trace.Did e) = Some (weight_of e % 2 ^ 64)
mark_in (trace.Emitted k) = None
mark_in (trace.Ended k) = None

-- the marks of the notes of a thread, oldest first
abbrev pub marks_of : {V : Type 0} → List (Note V) → List (Option ℕ)
marks_of [] = []
marks_of (n ∷ notes) = marks_of notes ++ mark_in n.trace ∷ []
