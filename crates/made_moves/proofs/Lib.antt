pub mod Grown
pub mod SoFar
