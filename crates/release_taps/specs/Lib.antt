pub mod Mirrored
pub mod Recorded
pub mod Seats
pub mod Split
pub mod Tap
