pub mod Attributes
pub mod Contents
pub mod Elements
pub mod Pieces
pub mod Texts
