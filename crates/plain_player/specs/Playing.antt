-- Which histories of the plain machine a player stands for, and what one call of it does.
use Rattle.std.specs.Prelude.{◌≡◌, ℕ, ◌+◌, ◌<◌, ◌≤◌, ◌++◌, List, length, Option, Some, None, slice_get, slice_index_or}
use Rattle.std.specs.Prelude.{option_to_list, Result, Ok, Err, MatchResult}
use Rattle.std.specs.Option.{option_map_or}
use Rattle.plain_text.specs.declared.packet.Packet.{Packet}
use Rattle.plain_machine.specs.declared.local.Local.{Local}
use Rattle.plain_machine.specs.declared.emission.Emission.{Emission}
use Rattle.plain_machine.specs.declared.plain_move.PlainMove.{PlainMove}
use Rattle.plain_machine.specs.declared.plain_move.PlayCause.{PlayCause}
use Rattle.plain_machine.specs.Program.{Meaning}
use Rattle.plain_machine.specs.Machine.{Hand, Thread}
use Rattle.plain_machine.specs.History.{Step, value_after, thread_after, sent_of, outputs, plain_move}
use Rattle.plain_player.specs.declared.seat.Seat.{Seat}
use Rattle.plain_player.specs.declared.hand.MoveError.{MoveError}
use Rattle.plain_player.specs.declared.hand.MoveError.TheVariants as error
use Rattle.box_program.specs.Hands.{local_in, hand_of}
use Rattle.plain_player.specs.Hands.{HasValues}

-- what a player has: the values of the variables, the threads, and how many moves it made
pub record Playing (V : Type 0) : Type 0 where
  pub values : List V
  pub seats : List Seat
  pub made : ℕ

-- no thread took or sent more than there were moves
abbrev pub SeatsWithin : List Seat → ℕ → Type 0
SeatsWithin seats made =
    (t : ℕ) (d : Seat) → t < length seats
    → ((slice_index_or seats t d).taken ≤ made) × ((slice_index_or seats t d).outputs ≤ made)

-- a seat has what the history tells of its thread
pub record IsSeat {V : Type 0} (steps : List (Step V)) (t : ℕ) (s : Seat) : Type 0 where
  pub taken : s.taken ≡ (thread_after steps t).taken
  pub outputs : s.outputs ≡ outputs t (sent_of steps)
  pub hand : s.hand ≡ local_in (thread_after steps t).hand

-- The player is where the machine with this number of threads is after this history.
pub record Stands {V : Type 0} (m : Meaning V) (threads : ℕ) (steps : List (Step V)) (p : Playing V) : Type 0 where
  pub values : HasValues m.vars p.values (value_after m steps)
  pub threads_are : length p.seats ≡ threads
  pub seat : (t : ℕ) (d : Seat) → t < threads → IsSeat steps t (slice_index_or p.seats t d)
  pub made : p.made ≡ length steps

-- where the thread is with its packet in hand, if there is one
abbrev pub place_in_hand : {V : Type 0} → Playing V → ℕ → Option Local
place_in_hand p t = hand_of (λ seat. seat.hand) (slice_get p.seats t)

-- the number, from 1, of the input that the next move of a thread in this seat is made with: the one in hand, or else
-- the next
abbrev pub input_of_seat : ℕ → Option Local → ℕ
input_of_seat taken None = taken + 1
input_of_seat taken (Some place) = taken

-- and so of a thread; a thread that is not there has input 0
abbrev pub next_input : {V : Type 0} → Playing V → ℕ → ℕ
next_input p t = option_map_or (λ seat. input_of_seat seat.taken seat.hand) (slice_get p.seats t) 0

-- A call made the move of the definition and sent what it sends, or named the cause by which it is none.
abbrev pub Follows : {V : Type 0} → Meaning V → (ℕ → List Packet) → ℕ → List (Step V) → PlainMove
    → Result (Option Emission) MoveError → Playing V → Type 0
Follows m inputs threads steps plain (Ok sent) p =
    MatchResult (plain_move m inputs threads steps plain)
    (λ next. Stands m threads next p × (sent_of next ≡ option_to_list sent ++ sent_of steps)) (λ _. ⊥)
Follows m inputs threads steps plain (Err (error.Illegal cause)) p = plain_move m inputs threads steps plain ≡ Err cause
Follows m inputs threads steps plain (Err error.NoMemory) p = Unit {0}
