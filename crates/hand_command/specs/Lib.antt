pub mod Errors
pub mod Hand
pub mod Handing
pub mod Resume
pub mod FromRunCommand
