-- What is judged of an image, one after another: its counts, how far its moves go, and its rows.
use Rattle.std.specs.Prelude.{◌≡◌, ◌≤◌, ◌<◌, ℕ, ◌+◌, ◌-◌, ◌^◌, List, [], ◌∷◌, ◌++◌, length, min, slice_get}
use Rattle.std.specs.Prelude.{Option, Some, None, Ok, Err}
use Rattle.plain_text.specs.declared.limit.TheConstants.{MOST_MOVES, MOST_OUTPUT_BYTES}
use Rattle.plain_text.specs.declared.packet.Packet.{Packet}
use Rattle.plain_machine.specs.declared.emission.Emission.{Emission}
use Rattle.plain_machine.specs.declared.plain_move.PlainMove.{PlainMove}
use Rattle.plain_machine.specs.declared.plain_move.PlayCause.{PlayCause}
use Rattle.plain_machine.specs.declared.plain_move.PlayFault.{PlayFault}
use Rattle.plain_machine.specs.Program.{Meaning}
use Rattle.plain_machine.specs.History.{Step, plain_move, play}
use Rattle.plain_player.specs.declared.hand.MoveError.{MoveError}
use Rattle.plain_player.specs.declared.hand.MoveError.TheVariants as error
use Rattle.recovery_world.specs.World.{Setting, Ended as EndedEpoch, inputs_fed}
use Rattle.handover.specs.declared.image.Ended.{Ended}
use Rattle.handover.specs.declared.image.Image.{Image}
use Rattle.handover_world.specs.Faults.{MayBe, bytes_of, wrong_row_of}
use Rattle.system_images.specs.declared.judging.Far.{Far}

-- The counts of the state may be on so many packets, whatever its moves send out.
pub record CountsMayBe (packets : ℕ) (image : Image) : Type 0 where
  pub fed : image.fed ≤ packets
  pub some_epochs : 2 ≤ image.epoch
  pub few_epochs : image.epoch < 2 ^ 32
  pub draws : image.draws ≤ image.moves
  pub few_moves : image.moves ≤ MOST_MOVES
  pub few_bytes : image.bytes ≤ MOST_OUTPUT_BYTES
  pub moves : length image.past ≤ image.moves

-- Of these threads each one has its row of this epoch, behind the first rows.
pub record HasRows (threads before : ℕ) (rows : List Ended) (x : EndedEpoch) : Type 0 where
  pub each : (t : ℕ) → t < threads
      → (row : Ended) × (slice_get rows (before + t) ≡ Some row) × (row.entries ≡ x.entries t)
      × (row.outputs ≡ x.outputs t)

-- how many bytes a move sent out
abbrev pub sizes_of : Option Emission → ℕ
sizes_of None = 0
sizes_of (Some o) = length o.packet.bytes

-- how far the moves go where the one of this number was not made
abbrev pub IsFarAt : ℕ → ℕ → MoveError → Far → Type 0
IsFarAt number bytes (error.Illegal cause) far =
    far ≡ record { bytes = bytes; fault = Some (record { number = number; cause = cause }) }
IsFarAt number bytes error.NoMemory far = ⊥

-- no move is left; or the next one can't be made, and is the first fault of the list
abbrev pub StopsBy : {V : Type 0} → Meaning V → (ℕ → List Packet) → ℕ → List PlainMove → List (Step V)
    → List PlainMove → Option PlayFault → Type 0
StopsBy m inputs threads moves steps rest None = rest ≡ []
StopsBy m inputs threads moves steps rest (Some fault) =
    (next : PlainMove) × (later : List PlainMove) × (cause : PlayCause) × (rest ≡ next ∷ later)
    × (plain_move m inputs threads steps next ≡ Err cause) × (play m inputs threads moves ≡ Err fault)

-- So far the list of moves goes.
pub record IsFar {V : Type 0} (m : Meaning V) (inputs : ℕ → List Packet) (threads : ℕ) (moves : List PlainMove)
    (far : Far) : Type 0 where
  pub steps : List (Step V)
  pub made : List PlainMove
  pub rest : List PlainMove
  pub moves_are : moves ≡ made ++ rest
  pub plays : play m inputs threads made ≡ Ok steps
  pub bytes : far.bytes ≡ min (bytes_of steps) (2 ^ 64 - 1)
  pub stops : StopsBy m inputs threads moves steps rest far.fault

-- The counts and rows of the image may be, and its moves are a legal list.
pub record PlaysWhole {V : Type 0} (s : Setting V) (image : Image) : Type 0 where
  pub counts : MayBe s image
  pub rows : wrong_row_of s.threads image ≡ None
  pub steps : List (Step V)
  pub plays : play s.meaning (inputs_fed s image.fed) s.threads image.past ≡ Ok steps
