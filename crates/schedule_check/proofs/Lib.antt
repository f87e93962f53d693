pub mod Alike
pub mod AsLong
pub mod Counted
pub mod FirstOnes
pub mod Tables
