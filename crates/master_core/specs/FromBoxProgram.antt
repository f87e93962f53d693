-- Definitions of the crate box_program that crates above this one name, passed on.
pub use Rattle.box_program.specs.Hands.{FitsProgram}
