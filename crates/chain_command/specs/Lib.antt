pub mod Outputs
pub mod Replies
pub mod Writes
pub mod Headline
pub mod Running
