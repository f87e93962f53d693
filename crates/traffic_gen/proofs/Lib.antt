pub mod Frames
pub mod JoinedBytes
pub mod Packets
