pub mod ChainLemmas
pub mod PassingLemmas
pub mod TakenLemmas
