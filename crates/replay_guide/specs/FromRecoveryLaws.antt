-- Definitions of the crate recovery_laws that crates above this one name, passed on.
pub use Rattle.recovery_laws.specs.Sound.{Firm, Sound}
