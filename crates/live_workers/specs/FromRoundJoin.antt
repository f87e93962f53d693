-- Definitions of the crate round_join that crates above this one name, passed on.
pub use Rattle.round_join.specs.Racing.{NoneNoted, OneMore, PerformsNoted, StoppedAt, event_noted, events_noted}
pub use Rattle.round_join.specs.Racing.{lines_noted, steps_by}
pub use Rattle.round_join.specs.declared.noting.Noted.{Noted}
