-- Lemmas of the crate packet_feeds that crates above this one name, passed on.
pub use Rattle.packet_feeds.proofs.AppendLemmas.{StandsLonger, with_behind}
