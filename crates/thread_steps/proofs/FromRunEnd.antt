-- Lemmas of the crate run_end that crates above this one name, passed on.
pub use Rattle.run_end.proofs.InputLemmas.{hand_is}
