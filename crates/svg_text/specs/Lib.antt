pub mod Drawing
pub mod WellFormed
