-- Definitions of the crate crash_recovery that crates above this one name, passed on.
pub use Rattle.crash_recovery.specs.Recovering.{WakesUp}
