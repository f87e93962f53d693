-- The plain machine: for each variable a value, and for each thread the number of inputs that it took and the packet in
-- hand. It knows no log, stamp, snapshot, epoch or logger. This file has one move of one thread.
use Rattle.std.specs.Prelude.{ℕ, ◌+◌, List, Option, Some, None, slice_get}
use Rattle.plain_text.specs.declared.packet.Packet.{Packet}
use Rattle.plain_machine.specs.declared.local.Local.{Local}
use Rattle.plain_machine.specs.declared.local.Move.{Move}
use Rattle.plain_machine.specs.declared.local.Move.TheVariants.{Access, Read, Clock, Draw, Emit, End}
use Rattle.plain_machine.specs.declared.plain_move.PlayCause.{PlayCause}
use Rattle.plain_machine.specs.declared.plain_move.PlayCause.TheVariants.{NothingToTake, MissingAnswer, UnwantedAnswer}
use Rattle.plain_machine.specs.Program.{Meaning}

-- the packet in hand, and where the program is with it
pub record Hand : Type 0 where
  pub packet : Packet
  pub place : Local

pub record Thread : Type 0 where
  pub taken : ℕ
  pub hand : Option Hand

-- what a move does, beside where it leaves its thread
pub data Effect (V : Type 0) : Type 0 where
  Takes : Effect V
  -- the value that it leaves
  Touches : (var : ℕ) (left : V) → Effect V
  Looks : (var : ℕ) → Effect V
  HearsClock : (answer : ℕ) → Effect V
  HearsDraw : (answer : ℕ) → Effect V
  Sends : (packet : Packet) → Effect V
  Ends : Effect V

-- what a move leads to: the thread after it and its effect, or the cause by which it is none
pub data Moved (V : Type 0) : Type 0 where
  Moves : (after : Thread) (effect : Effect V) → Moved V
  Illegal : (cause : PlayCause) → Moved V

abbrev pub holding : ℕ → Packet → Local → Thread
holding taken packet place = record { taken = taken; hand = Some (record { packet = packet; place = place }) }

-- the packet as it goes out: the program's bytes, with the times and the original length of its input
abbrev pub sent_packet : {V : Type 0} → Meaning V → Hand → Packet
sent_packet m h = record h.packet { bytes = m.out h.packet h.place }

-- with no packet in hand, the next input is taken
abbrev pub take_move : {V : Type 0} → Meaning V → ℕ → Option ℕ → Option Packet → Moved V
take_move m taken (Some a) input = Illegal UnwantedAnswer
take_move m taken None None = Illegal NothingToTake
take_move m taken None (Some p) = Moves (holding (taken + 1) p (m.begin p)) Takes

-- with a packet in hand, the program's next move is made, told an answer exactly where it asks for one
abbrev pub hand_move : {V : Type 0} → Meaning V → (ℕ → V) → ℕ → Hand → Option ℕ → Move → Moved V
hand_move m value taken h None (Access v) =
    Moves (holding taken h.packet (m.touch v (value v) h.place).1) (Touches v (m.touch v (value v) h.place).0)
hand_move m value taken h None (Read v) = Moves (holding taken h.packet (m.look v (value v) h.place)) (Looks v)
hand_move m value taken h (Some a) Clock = Moves (holding taken h.packet (m.told a h.place)) (HearsClock a)
hand_move m value taken h (Some a) Draw = Moves (holding taken h.packet (m.told a h.place)) (HearsDraw a)
hand_move m value taken h None Emit = Moves (holding taken h.packet (m.emitted h.place)) (Sends (sent_packet m h))
hand_move m value taken h None End = Moves (record { taken = taken; hand = None }) Ends
hand_move m value taken h (Some a) (Access v) = Illegal UnwantedAnswer
hand_move m value taken h (Some a) (Read v) = Illegal UnwantedAnswer
hand_move m value taken h (Some a) Emit = Illegal UnwantedAnswer
hand_move m value taken h (Some a) End = Illegal UnwantedAnswer
hand_move m value taken h None Clock = Illegal MissingAnswer
hand_move m value taken h None Draw = Illegal MissingAnswer

abbrev pub held_move : {V : Type 0} → Meaning V → List Packet → (ℕ → V) → ℕ → Option ℕ → Option Hand → Moved V
held_move m packets value taken answer None = take_move m taken answer (slice_get packets taken)
held_move m packets value taken answer (Some h) = hand_move m value taken h answer (m.next h.place)

-- the move of a thread that has these inputs, where the variables have these values, with this answer or none
abbrev pub thread_move : {V : Type 0} → Meaning V → List Packet → (ℕ → V) → Thread → Option ℕ → Moved V
thread_move m packets value th answer = held_move m packets value th.taken answer th.hand
