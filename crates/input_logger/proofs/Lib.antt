pub mod PlaceLists
pub mod InputsBehind
