pub mod Fields
pub mod Rewriting
pub mod Steering
pub mod View
