-- Definitions of the crate master_core that crates above this one name, passed on.
pub use Rattle.master_core.specs.Holding.{HoldsOf, held_entries}
pub use Rattle.master_core.specs.MasterStanding.{Stands}
pub use Rattle.master_core.specs.Mastered.{Mastered, value_of}
pub use Rattle.master_core.specs.Stepping.{emission_of_output, plain_entry}
pub use Rattle.master_core.specs.declared.parts.Counts.{Counts}
pub use Rattle.master_core.specs.declared.parts.ThreadPart.{ThreadPart}
pub use Rattle.master_core.specs.declared.parts.VarPart.{VarPart}
