pub mod Differences
pub mod Repeating
pub mod Settled
pub mod Rounds
