pub mod OutputLists
pub mod KeyLemmas
pub mod NameLemmas
pub mod ArrivalLemmas
pub mod GoneLemmas
pub mod KeptLemmas
pub mod ReachLemmas
