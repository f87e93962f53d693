pub mod Outputs
pub mod Counting
pub mod Unchanged
