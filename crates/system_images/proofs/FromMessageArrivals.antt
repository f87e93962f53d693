-- Lemmas of the crate message_arrivals that crates above this one name, passed on.
pub use Rattle.message_arrivals.proofs.OutputArrivals.{IsSentByPast, lacks, may_go, out_is}
