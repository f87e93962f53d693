pub mod EachOnce
pub mod Counted
