pub mod Inputs
pub mod Places
