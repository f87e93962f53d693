-- Definitions of the crate run_command that crates above this one name, passed on.
pub use Rattle.run_command.specs.Running.{IsSomewhere, IsSystemAt, RunsFrom, StoppedThere}
