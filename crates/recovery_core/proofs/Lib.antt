pub mod AppendedLemmas
pub mod FinishLemmas
pub mod HandingLemmas
pub mod LackingLemmas
pub mod PartingLemmas
pub mod RepliesLemmas
pub mod WaitingLemmas
