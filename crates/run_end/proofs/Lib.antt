pub mod InputLemmas
pub mod Rooms
pub mod NextMoves
pub mod Ways
pub mod Loops
pub mod Endings
