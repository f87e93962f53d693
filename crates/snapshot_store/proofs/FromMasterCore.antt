-- Lemmas of the crate master_core that crates above this one name, passed on.
pub use Rattle.master_core.proofs.Frontiers.{frontier_of, frontiers_are_defined, known_is_there, there_is_known}
pub use Rattle.master_core.proofs.Moments.{moment_closed, moment_log}
pub use Rattle.master_core.proofs.StampedLemmas.{other_output}
