-- Lemmas of the crate run_end that crates above this one name, passed on.
pub use Rattle.thread_steps.proofs.FromRunEnd.{hand_is}
