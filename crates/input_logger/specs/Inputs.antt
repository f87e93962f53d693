-- The inputs of each thread: of the fed packets, those that are steered to it.
use Rattle.std.specs.Prelude.{ℕ, suc, zero, ◌%◌, ◌==◌, List, [], ◌∷◌, ◌++◌, filter, slice_get, Option, None, Result, Ok}
use Rattle.std.specs.Prelude.{Err, Bool}
use Rattle.tagged_frames.specs.FromPlainText.{Packet}
use Rattle.tagged_frames.specs.FromPacketHeaders.{Flow}
use Rattle.tagged_frames.specs.FromPacketHeaders.{NotFlow}
use Rattle.tagged_frames.specs.FromPacketHeaders.{steering_sum}
use Rattle.tagged_frames.specs.FromPacketHeaders.{viewed}
use Rattle.tagged_frames.specs.Tags.{behind_tag}

-- a flow goes to the thread that its sum leaves, and all else to thread 0
abbrev pub thread_of_view : Result Flow NotFlow → ℕ → ℕ
thread_of_view (Ok flow) threads = steering_sum flow % threads
thread_of_view (Err answer) threads = 0

-- what a packet is seen as, behind a tag where one is looked through
abbrev pub view_of : Bool → Packet → Result Flow NotFlow
view_of tags packet = viewed (behind_tag tags packet).bytes (behind_tag tags packet).original

abbrev pub thread_of : Bool → Packet → ℕ → ℕ
thread_of tags packet threads = thread_of_view (view_of tags packet) threads

-- what was fed to this number of threads, in order, and whether one tag is looked through
pub record Fed : Type 0 where
  pub threads : ℕ
  pub tags : Bool
  pub packets : List Packet

-- the log with one more packet
abbrev pub with_packet : Fed → Packet → Fed
with_packet log packet = record log { packets = log.packets ++ packet ∷ [] }

abbrev pub inputs_of : Fed → ℕ → List Packet
inputs_of log thread = filter (λ packet. thread_of log.tags packet log.threads == thread) log.packets

-- input k of a thread, from 1
abbrev pub input_at : Fed → ℕ → ℕ → Option Packet
input_at log thread zero = None
input_at log thread (suc earlier) = slice_get (inputs_of log thread) earlier
