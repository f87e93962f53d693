pub mod Checking
pub mod Contents
pub mod Counting
pub mod Hashing
pub mod Unmatched
