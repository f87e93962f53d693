-- Definitions of the crate recovery_core that crates above this one name, passed on.
pub use Rattle.recovery_core.specs.Systems.{SystemStands, Systemed}
