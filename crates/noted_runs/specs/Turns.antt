-- How the packets of a capture are steered: for each its thread, and which input of the thread it is.
use Rattle.std.specs.Prelude.{◌≡◌, ℕ, Bool, ◌+◌, ◌<◌, List, length, take, Some, slice_get}
use Rattle.plain_text.specs.declared.packet.Packet.{Packet}
use Rattle.input_logger.specs.Inputs.{inputs_of, thread_of}

-- what is noted of a packet that follows the first i: its thread, and its number among the inputs of the thread
abbrev pub turn_of : ℕ → Bool → List Packet → ℕ → Packet → ℕ × ℕ
turn_of threads tags packets i packet = (
  thread_of tags packet threads,
  length
      (inputs_of (record { threads = threads; tags = tags; packets = take i packets }) (thread_of tags packet threads))
      + 1,
)

-- It is noted of each packet.
pub record AreTurns (threads : ℕ) (tags : Bool) (packets : List Packet) (turns : List (ℕ × ℕ)) : Type 0 where
  pub long : length turns ≡ length packets
  pub each : (i : ℕ) (packet : Packet) → slice_get packets i ≡ Some packet
      → slice_get turns i ≡ Some (turn_of threads tags packets i packet)
  pub below : (i : ℕ) (turn : ℕ × ℕ) → slice_get turns i ≡ Some turn → turn.0 < threads
