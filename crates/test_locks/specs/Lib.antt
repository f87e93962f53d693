pub mod Racing
pub mod Followed
