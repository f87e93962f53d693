pub mod Bytes
pub mod Composed
pub mod Exchanges
pub mod Known
pub mod Seen
pub mod Steps
pub mod Whole
