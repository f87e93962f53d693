pub mod Counted
pub mod Faults
pub mod Handing
pub mod Images
pub mod Ready
