pub mod TakenLemmas
pub mod FromMasterCore
