-- Lemmas of the crate recovery_laws that crates above this one name, passed on.
pub use Rattle.system_parts.proofs.FromRecoveryLaws.{number_high, within_sound}
