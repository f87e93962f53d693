-- Lemmas of the crate recovery_laws that crates above this one name, passed on.
pub use Rattle.replay_guide.proofs.FromRecoveryLaws.{among_either, among_left, among_right, number_high, within_sound}
