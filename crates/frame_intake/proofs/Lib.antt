pub mod ArriveLemmas
pub mod LostLemmas
pub mod TakenLemmas
