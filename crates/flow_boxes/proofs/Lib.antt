pub mod Summing
pub mod HeldInputs
pub mod Fitting
