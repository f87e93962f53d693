pub mod Guided
pub mod Leading
pub mod Done
pub mod Shown
pub mod Waiting
pub mod Blocked
