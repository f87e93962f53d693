pub mod Tagged
pub mod Tags
