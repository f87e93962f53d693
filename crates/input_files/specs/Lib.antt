pub mod Answers
pub mod Errors
pub mod Files
pub mod Judging
pub mod Texts
