-- The check of what a run left: with the same box and the same capture, of the schedule and the released capture that
-- it wrote.
use Rattle.std.specs.Prelude.{◌≡◌, ◌≤◌, List, length}
use Rattle.plain_text.specs.declared.limit.TheConstants.{MOST_EVENTS, MOST_FILE_BYTES, MOST_PACKETS}
use Rattle.plain_text.specs.declared.packet.Packet.{Packet}
use Rattle.plain_text.specs.declared.packet.Unit.{Unit as FractionUnit}
use Rattle.pcap_io.specs.Capture.{written}
use Rattle.plain_machine.specs.declared.plain_move.PlainMove.{PlainMove}
use Rattle.plain_player.specs.ScheduleText.{schedule_text}
use Rattle.world_io.specs.World.{Shown}
use Rattle.job_commands.specs.Words.{RunNames, CheckNames}

-- the names of a run, as those of a check
abbrev pub checked : RunNames → CheckNames
checked names = record {
  files = record { box_file = names.box_file; capture = names.capture; schedule = names.schedule };
  released = names.released;
}

-- The box file and the capture have the bytes that they had when the run began, and the outputs those that it left.
pub record StillStand (names : RunNames) (old new later : Shown) : Type 0 where
  pub box_file : later.names names.box_file ≡ old.names names.box_file
  pub capture : later.names names.capture ≡ old.names names.capture
  pub released : later.names names.released ≡ new.names names.released
  pub schedule : later.names names.schedule ≡ new.names names.schedule

-- The schedule and the released capture are within the limits of files that are read.
pub record AreWithinLimits (u : FractionUnit) (released : List Packet) (schedule : List PlainMove) : Type 0 where
  pub few_moves : length schedule ≤ MOST_EVENTS
  pub schedule_size : length (schedule_text schedule) ≤ MOST_FILE_BYTES
  pub few_packets : length released ≤ MOST_PACKETS
  pub released_size : length (written u released) ≤ MOST_FILE_BYTES
