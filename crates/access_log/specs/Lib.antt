pub mod Held
pub mod Lanes
pub mod Members
pub mod Narrow
pub mod Rows
pub mod Slots
pub mod FromEntryOrder
