-- Definitions of the crate master_core that crates above this one name, passed on.
pub use Rattle.snapshot_store.specs.FromMasterCore.{Counts, ThreadPart, emission_of_output}
