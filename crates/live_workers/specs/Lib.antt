pub mod Draws
pub mod Frames
pub mod Moving
pub mod Racing
pub mod Rounds
pub mod Telling
pub mod Working
pub mod FromRoundJoin
