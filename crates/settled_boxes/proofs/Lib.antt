pub mod OutputsOfInputs
pub mod BoxMoves
pub mod BehindTags
pub mod Releases
pub mod SteeredSums
pub mod TotalCounts
pub mod CaptureCounts
