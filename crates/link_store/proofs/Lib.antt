pub mod AllLemmas
pub mod EntryLemmas
pub mod KeptLemmas
pub mod RunLemmas
pub mod ToldLemmas
pub mod FrameLemmas
