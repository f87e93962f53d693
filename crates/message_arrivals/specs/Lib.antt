pub mod Arriving
pub mod FromOutputReleases
