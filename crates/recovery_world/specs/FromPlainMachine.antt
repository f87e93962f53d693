-- Definitions of the crate plain_machine that crates above this one name, passed on.
pub use Rattle.plain_machine.specs.Line.{GoesBefore, IsArranged, IsByWeight}
