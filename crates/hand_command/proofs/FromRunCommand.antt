-- Lemmas of the crate run_command that crates above this one name, passed on.
pub use Rattle.run_command.proofs.Going.{at_same, runs_same, somewhere_same}
pub use Rattle.run_command.proofs.WholeRun.{runs_begun}
