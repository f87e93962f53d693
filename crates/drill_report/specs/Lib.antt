pub mod Events
pub mod Report
pub mod Said
