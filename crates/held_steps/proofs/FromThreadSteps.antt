-- Lemmas of the crate thread_steps that crates above this one name, passed on.
pub use Rattle.thread_steps.proofs.StepLemmas.{input_now, low_now, room_now}
