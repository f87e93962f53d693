pub mod Beside
pub mod Kept
pub mod Links
pub mod Rows
pub mod Runs
pub mod Sending
pub mod Spelled
