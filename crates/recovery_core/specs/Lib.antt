pub use Rattle.system_parts.specs.Parts
pub use Rattle.system_parts.specs.SystemStanding
pub use Rattle.system_parts.specs.Performing
pub use Rattle.system_parts.specs.Resting
pub mod Lacking
pub mod Partings
pub mod Systems
pub mod Views
