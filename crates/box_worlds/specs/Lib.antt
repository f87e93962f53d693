pub mod Worlds
pub mod Boxes
pub mod Outcomes
pub mod Releases
pub mod Drops
pub mod EachOutcome
