pub mod Existing
pub mod Made
pub mod Sending
