pub mod EntryArrivals
pub mod OutputArrivals
pub mod Arrivals
pub mod Forgetting
pub mod ThreadCounts
pub mod FromOutputReleases
