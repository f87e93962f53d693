pub mod Choosing
pub mod Progressing
pub mod Ahead
pub mod Repeating
