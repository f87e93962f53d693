-- Lemmas of the crate output_releases that crates above this one name, passed on.
pub use Rattle.snapshot_steps.proofs.FromOutputReleases.{counted}
