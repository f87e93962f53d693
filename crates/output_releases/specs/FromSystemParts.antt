-- Definitions of the crate system_parts that crates above this one name, passed on.
pub use Rattle.system_parts.specs.Parts.{AreParts, Parts}
pub use Rattle.system_parts.specs.Performing.{Appends, ComesTo, MovesOn, Releasing, Replies}
pub use Rattle.system_parts.specs.SystemStanding.{AreCounts, AreOutputs, IsSentEntry, IsSentOutput, IsSnapshot}
pub use Rattle.system_parts.specs.SystemStanding.{StandsFor, StandsForSome}
