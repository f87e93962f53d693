-- Definitions of the crate recovery_world that crates above this one name, passed on.
pub use Rattle.recovery_world.specs.Files.{reply_line, sent_names}
pub use Rattle.recovery_world.specs.World.{Sent}
