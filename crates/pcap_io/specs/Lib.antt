pub mod Capture
pub mod Faults
pub mod Limits
pub mod Reader
pub mod Reading
pub mod Record
pub mod Started
pub mod Captured
