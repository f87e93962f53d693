pub mod Drops
pub mod Shown
pub mod Flows
pub mod Ranges
pub mod Idle
