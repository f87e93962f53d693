pub mod Checking
pub mod Errors
pub mod Playing
pub mod Runs
