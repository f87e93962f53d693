pub mod Outputs
pub mod Script
pub mod Told
pub mod Whole
