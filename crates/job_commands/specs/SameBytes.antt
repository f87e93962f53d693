-- What two runs leave whose input files have the same bytes, under whatever names.
use Rattle.std.specs.Prelude.{◌≡◌, ℕ, List, ◌++◌}
use Rattle.world_io.specs.World.{Shown}
use Rattle.output_files.specs.Writes.{report_file}
use Rattle.job_commands.specs.Words.{RunNames}

-- the input files of the two have the same bytes
pub record HaveSameInputs (names other : RunNames) (old before : Shown) : Type 0 where
  pub box_file : before.names other.box_file ≡ old.names names.box_file
  pub capture : before.names other.capture ≡ old.names names.capture
  pub script : before.names other.script ≡ old.names names.script

-- the two leave the same bytes: as RELEASED, as SCHEDULE, and after what stood on the report
pub record LeaveSameBytes (names other : RunNames) (old new before after : Shown) : Type 0 where
  pub released : after.names other.released ≡ new.names names.released
  pub schedule : after.names other.schedule ≡ new.names names.schedule
  pub report : List ℕ
  pub reported : new.sent report_file ≡ old.sent report_file ++ report
  pub reported_too : after.sent report_file ≡ before.sent report_file ++ report
