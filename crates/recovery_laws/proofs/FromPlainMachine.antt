-- Lemmas of the crate plain_machine that crates above this one name, passed on.
pub use Rattle.recovery_world.proofs.FromPlainMachine.{weight_one}
