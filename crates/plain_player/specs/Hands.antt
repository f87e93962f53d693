-- What a player does with the packet in hand.
use Rattle.std.specs.Prelude.{◌≡◌, ℕ, ◌+◌, ◌<◌, List, length, Option, Some, None, option_map, slice_index_or, slice_set}
use Rattle.std.specs.Prelude.{Result, Ok, Err}
use Rattle.plain_text.specs.declared.packet.Packet.{Packet}
use Rattle.box_program.specs.Hands.{local_in}
use Rattle.plain_machine.specs.declared.local.Local.{Local}
use Rattle.plain_machine.specs.Program.{Meaning}
use Rattle.plain_machine.specs.Machine.{Hand, Thread, Effect, Takes, Touches, Looks, HearsClock, HearsDraw, Sends, Ends}
use Rattle.plain_machine.specs.Machine.{Moved, Moves, Illegal}
use Rattle.plain_machine.specs.declared.emission.Emission.{Emission}
use Rattle.plain_player.specs.declared.seat.Seat.{Seat}
use Rattle.plain_player.specs.declared.hand.HandMove.{HandMove}
use Rattle.plain_player.specs.declared.hand.MoveError.{MoveError}
use Rattle.plain_player.specs.declared.hand.MoveError.TheVariants as error

-- a list has the first values of a function
abbrev pub HasValues : {V : Type 0} → ℕ → List V → (ℕ → V) → Type 0
HasValues {V} count values value = (v : ℕ) (d : V) → v < count → slice_index_or values v d ≡ value v

abbrev pub values_after : {V : Type 0} → List V → Effect V → List V
values_after values Takes = values
values_after values (Touches v left) = slice_set values v left
values_after values (Looks v) = values
values_after values (HearsClock a) = values
values_after values (HearsDraw a) = values
values_after values (Sends packet) = values
values_after values Ends = values

-- the packet that an effect sends out
abbrev pub sent_by : {V : Type 0} → Effect V → Option Packet
sent_by Takes = None
sent_by (Touches v left) = None
sent_by (Looks v) = None
sent_by (HearsClock a) = None
sent_by (HearsDraw a) = None
sent_by (Sends packet) = Some packet
sent_by Ends = None

abbrev pub with_bytes : Packet → List ℕ → Packet
with_bytes packet bytes = record packet { bytes = bytes }

-- What was done with the packet in hand is the move that leads to this thread by this effect.
pub record IsHandMove {V : Type 0} (after : Thread) (effect : Effect V) (taken : ℕ) (packet : Packet) (made : HandMove)
    (old new : List V) : Type 0 where
  pub taken_stays : after.taken ≡ taken
  pub place : made.place ≡ local_in after.hand
  pub sent : option_map (with_bytes packet) made.sent ≡ sent_by effect
  pub values : new ≡ values_after old effect

abbrev pub MakesHandMove : {V : Type 0} → Moved V → ℕ → Packet → HandMove → List V → List V → Type 0
MakesHandMove (Moves after effect) taken packet made old new = IsHandMove after effect taken packet made old new
MakesHandMove (Illegal cause) taken packet made old new = ⊥

abbrev pub PlaysHand : {V : Type 0} → Moved V → ℕ → Packet → Result HandMove MoveError → List V → List V → Type 0
PlaysHand moved taken packet (Ok made) old new = MakesHandMove moved taken packet made old new
PlaysHand moved taken packet (Err (error.Illegal cause)) old new = moved ≡ Illegal cause
PlaysHand moved taken packet (Err error.NoMemory) old new = Unit {0}

-- the seat after a move with the packet in hand, and what it sent out
abbrev pub seat_after : ℕ → Seat → Packet → HandMove → Seat × Option Emission
seat_after thread seat packet made = sent_after made.sent
  where
    sent_after : Option (List ℕ) → Seat × Option Emission
    sent_after None = (record seat { hand = made.place }, None)
    sent_after (Some bytes) = (
      record { taken = seat.taken; outputs = seat.outputs + 1; hand = made.place },
      Some (record {
        thread = thread;
        number = seat.outputs + 1;
        input = seat.taken;
        packet = record packet { bytes = bytes };
      }),
    )

-- a thread without a packet in hand takes its next input
abbrev pub TakesInput : {V : Type 0} → Moved V → Seat → Result Seat MoveError → Type 0
TakesInput (Moves after effect) seat (Ok s) =
    (s.taken ≡ after.taken) × (s.outputs ≡ seat.outputs) × (s.hand ≡ local_in after.hand)
TakesInput (Moves after effect) seat (Err e) = ⊥
TakesInput (Illegal cause) seat (Ok s) = ⊥
TakesInput (Illegal cause) seat (Err e) = e ≡ error.Illegal cause
