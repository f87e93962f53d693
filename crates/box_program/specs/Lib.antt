pub mod Count
pub mod Hands
pub mod Peek
