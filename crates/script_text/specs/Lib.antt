pub mod Choosing
pub mod Scripts
pub mod Table
pub mod Values
pub mod FromRecoveryWorld
