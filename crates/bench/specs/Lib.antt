pub mod Racing
pub mod Systems
pub mod Touching
