pub mod Lost
pub mod Orders
