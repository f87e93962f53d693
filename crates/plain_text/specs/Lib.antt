pub mod Fields
pub mod Grammar
pub mod LineFiles
pub mod Lines
pub mod Octets
pub mod Packets
pub mod NumberedWords
