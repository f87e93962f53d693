pub mod Log
pub mod Stamps
pub mod Closed
