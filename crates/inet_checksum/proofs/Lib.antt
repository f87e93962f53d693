pub mod AdjustedSums
pub mod RecomputedSums
pub mod Values
pub mod Words
