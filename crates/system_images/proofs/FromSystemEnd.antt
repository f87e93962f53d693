-- Lemmas of the crate system_end that crates above this one name, passed on.
pub use Rattle.system_end.proofs.EndingLemmas.{ends_woken}
