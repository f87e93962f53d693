pub mod Replies
pub mod Run
pub mod Errors
pub mod Steps
