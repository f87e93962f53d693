pub mod Effects
pub mod OnlyWriting
pub mod PieceWise
