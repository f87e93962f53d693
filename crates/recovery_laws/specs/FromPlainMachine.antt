-- Definitions of the crate plain_machine that crates above this one name, passed on.
pub use Rattle.recovery_world.specs.FromPlainMachine.{GoesBefore, IsByWeight}
