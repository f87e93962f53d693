pub mod Logger
pub mod Kept
pub mod Reach
