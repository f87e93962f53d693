pub mod Opening
pub mod Staying
