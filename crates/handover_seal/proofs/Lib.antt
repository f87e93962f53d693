mod Hashed
pub mod Opened
