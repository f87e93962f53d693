-- Lemmas of the crate round_join that crates above this one name, passed on.
pub use Rattle.round_join.proofs.NotedEvents.{noted_perform}
