-- Lemmas of the crate output_releases that crates above this one name, passed on.
pub use Rattle.output_releases.proofs.Answering.{counted}
pub use Rattle.output_releases.proofs.OutputLists.{sent_names_both}
pub use Rattle.output_releases.proofs.QuietEvents.{IsQuiet, quiet_on}
pub use Rattle.output_releases.proofs.ReleasedLists.{releases_none}
