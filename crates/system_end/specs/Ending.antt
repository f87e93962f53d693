-- The followed entries in the order in which they can all be made.
use Rattle.std.specs.Prelude.{◌<◌, ◌↔◌, List}
use Rattle.entry_order.specs.Log.{Entry, IsLog, IsIn}
use Rattle.access_log.specs.Held.{Lane}
use Rattle.master_core.specs.Holding.{held_entries, HoldsOf}
use Rattle.run_end.specs.Ending.{AreInOrder}

-- The list has just the entries of the guide. In each log that they are of, they stand by weight, then thread.
pub record IsOrderOf (guide : List Lane) (order : List Entry) : Type 0 where
  pub each : (e : Entry) → IsIn e order ↔ IsIn e (held_entries guide)
  pub in_order : (log stored : List Entry) → IsLog log → ((e : Entry) → IsIn e log → e.thread < 16)
      → HoldsOf log stored guide → AreInOrder log order
