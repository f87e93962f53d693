-- Lemmas of the crate output_releases that crates above this one name, passed on.
pub use Rattle.output_releases.proofs.Answering.{AnswersTo}
pub use Rattle.output_releases.proofs.QuietEvents.{quiet_on}
pub use Rattle.output_releases.proofs.ReleasedLists.{appends_none, appends_then, releases_after, releases_none}
pub use Rattle.output_releases.proofs.ReleasedLists.{releases_then}
