-- Lemmas of the crate single_events that crates above this one name, passed on.
pub use Rattle.single_events.proofs.ReplyLemmas.{only}
