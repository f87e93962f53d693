-- Definitions of the crate access_log that crates above this one name, passed on.
pub use Rattle.access_log.specs.declared.entry.Output.{Output}
pub use Rattle.access_log.specs.declared.entry.StampedEntry.{StampedEntry}
