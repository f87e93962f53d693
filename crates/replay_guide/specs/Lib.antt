pub mod Following
pub mod Turns
pub mod Orders
pub mod Indexes
pub mod Walks
pub mod Worlds
pub mod FromRecoveryLaws
