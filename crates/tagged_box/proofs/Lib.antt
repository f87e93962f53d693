pub mod Moves
pub mod Runs
pub mod Emissions
pub mod Nothing
pub mod Unique
pub mod InputBytes
