-- Lemmas of the crate output_releases that crates above this one name, passed on.
pub use Rattle.message_arrivals.proofs.FromOutputReleases.{appends_none, appends_then, releases_after, releases_none}
pub use Rattle.message_arrivals.proofs.FromOutputReleases.{releases_then}
