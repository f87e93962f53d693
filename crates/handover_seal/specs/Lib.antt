pub mod Packets
pub mod Seals
