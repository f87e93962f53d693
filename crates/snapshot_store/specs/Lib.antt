pub mod Stored
pub mod FromBoxProgram
pub mod FromMasterCore
