pub mod Layout
pub mod Places
pub mod Faults
pub mod Parts
pub mod Writing
pub mod FromAccessLog
