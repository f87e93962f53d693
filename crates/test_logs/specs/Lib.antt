pub mod Pinned
pub mod Scene
