pub mod TakingLemmas
pub mod StoreLemmas
pub mod FromOutputReleases
