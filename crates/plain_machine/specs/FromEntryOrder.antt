-- Definitions of the crate entry_order that crates above this one name, passed on.
pub use Rattle.entry_order.specs.Closed.{IsClosedPart, IsDue, IsFirstMissing, IsNoLater}
pub use Rattle.entry_order.specs.Log.{Entry, IsIn, PrecedesOrIs, PrecedesOutput, entries, places}
pub use Rattle.entry_order.specs.Stamps.{IsCount}
pub use Rattle.entry_order.specs.declared.what.What.{What}
pub use Rattle.entry_order.specs.declared.what.What.TheVariants.{Access, Clock, Draw, Read}
