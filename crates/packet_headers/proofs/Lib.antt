pub mod FirstFailure
pub mod Laws
pub mod Places
pub mod Residues
pub mod Views
pub mod Weights
