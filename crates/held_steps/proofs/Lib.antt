pub mod MadeEntries
pub mod MadeArrivals
pub mod HeldSteps
pub mod FromOutputReleases
pub mod FromRunEnd
pub mod FromThreadSteps
