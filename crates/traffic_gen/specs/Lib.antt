pub mod AllOnes
pub mod Checksums
pub mod Frame
pub mod Generated
