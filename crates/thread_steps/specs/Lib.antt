pub mod Following
pub mod Stepping
pub mod FromRunEnd
pub mod FromSystemParts
