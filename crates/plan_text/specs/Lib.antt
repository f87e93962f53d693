pub mod Plans
pub mod Table
pub mod Values
