-- Rows of slots, whatever room each slot has.
use Rattle.std.specs.Prelude.{List, Option}
use Rattle.access_log.specs.declared.entry.StampedEntry.{StampedEntry}
use Rattle.access_log.specs.declared.row.Row.{Row}
use Rattle.access_log.specs.declared.row.Row.TheVariants.{One, Two, Four, Eight, Full}

-- the slots, each with its entry or empty
abbrev pub row_slots : Row → List (Option StampedEntry)
row_slots (One slots) = slots.items
row_slots (Two slots) = slots.items
row_slots (Four slots) = slots.items
row_slots (Eight slots) = slots.items
row_slots (Full slots) = slots.items
