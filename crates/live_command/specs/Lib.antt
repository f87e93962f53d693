pub mod Telling
pub mod Going
pub mod Plans
pub mod Writing
