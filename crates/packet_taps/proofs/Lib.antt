pub mod Along
pub mod Ended
pub mod Placing
pub mod PrintedWindow
pub mod Reading
pub mod Windows
