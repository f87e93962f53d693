-- The rows of the table: one for each packet that was fed, in the order of the capture.
use Rattle.std.specs.Prelude.{◌≡◌, ℕ, ◌+◌, ◌-◌, List, length, take, Option, Some, None, slice_get}
use Rattle.plain_text.specs.declared.packet.Packet.{Packet}
use Rattle.input_logger.specs.Inputs.{thread_of}
use Rattle.plain_machine.specs.History.{Step}
use Rattle.recovery_world.specs.World.{Setting, World, inputs_fed}
use Rattle.noted_runs.specs.declared.trace.rows.Departure.{Departure}
use Rattle.noted_runs.specs.declared.trace.rows.Fate.{Fate}
use Rattle.noted_runs.specs.declared.trace.rows.Fate.TheVariants as fate
use Rattle.noted_runs.specs.declared.trace.rows.Row.{Row}
use Rattle.noted_runs.specs.Became.{became}
use Rattle.noted_runs.specs.Fates.{IsFate}

-- how a packet of this fate left
abbrev pub left_by : List Departure → Fate → Option Departure
left_by departures (fate.Released n) = slice_get departures (n - 1)
left_by departures (fate.Waiting u n) = None
left_by departures fate.UnderWay = None
left_by departures (fate.Dropped digit) = None
left_by departures fate.NoOutput = None
left_by departures fate.InHand = None
left_by departures fate.NotTaken = None

-- The row of the packet that follows the first i of the capture: the world ends in a run of these steps, and its
-- outputs left so. Reasons stand in this register.
pub record IsRow {V : Type 0} (register : Option ℕ) (s : Setting V) (w : World V) (steps : List (Step V))
    (departures : List Departure) (i : ℕ) (row : Row) : Type 0 where
  pub packet : row.packet ≡ i + 1
  pub there : Packet
  pub there_is : slice_get s.packets i ≡ Some there
  pub thread : row.thread ≡ thread_of s.tags there s.threads
  -- one more than the packets before it that went to its thread
  pub input : row.input ≡ length (inputs_fed s i row.thread) + 1
  pub fate : IsFate w row.thread (became register steps row.thread row.input) row.fate
  pub left : row.left ≡ left_by departures row.fate

-- a row for each packet that was fed
pub record AreRows {V : Type 0} (register : Option ℕ) (s : Setting V) (w : World V) (steps : List (Step V))
    (departures : List Departure) (rows : List Row) : Type 0 where
  pub count : length rows ≡ length (take w.fed s.packets)
  pub each : (i : ℕ) (row : Row) → slice_get rows i ≡ Some row → IsRow register s w steps departures i row
