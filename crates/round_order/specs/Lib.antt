pub mod Receipts
pub mod Linked
pub mod Woven
pub mod Home
pub mod Growth
pub mod PartMoves
pub mod Turns
pub mod Rising
