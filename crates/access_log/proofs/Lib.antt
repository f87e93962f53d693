pub mod RetainedLemmas
pub mod LaneLemmas
pub mod SlotLemmas
pub mod MemberLemmas
pub mod NarrowLemmas
