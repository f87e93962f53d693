-- Definitions of the crate recovery_world that crates above this one name, passed on.
pub use Rattle.recovery_world.specs.Turns.{Awaits, HasTurn, IsAwaited, IsReadToCome, IsTouchToCome, TellsClock}
pub use Rattle.recovery_world.specs.Turns.{TellsDraw}
pub use Rattle.recovery_world.specs.World.{Setting, World, inputs_fed}
