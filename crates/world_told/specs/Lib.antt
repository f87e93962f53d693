pub mod Events
pub mod Honest
pub mod Ledgers
pub mod Orderly
pub mod Sent
