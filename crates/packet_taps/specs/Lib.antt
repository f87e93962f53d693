pub mod Lines
pub mod Places
pub mod Printing
pub mod Watching
pub mod Windows
pub mod Words
