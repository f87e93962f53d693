-- What the words of a generator choose from.
use Rattle.std.specs.Prelude.{◌≡◌, ℕ, ◌<◌, List, length, slice_index}
use Rattle.entry_order.specs.Log.{entries}
use Rattle.plain_machine.specs.Program.{Meaning}
use Rattle.plain_machine.specs.History.{log_of, sent_of, outputs}
use Rattle.recovery_world.specs.World.{Setting, World}
use Rattle.system_parts.specs.Parts.{Parts}
use Rattle.system_parts.specs.SystemStanding.{StandsFor}

-- The lists have how many entries and outputs each of the first threads had, and room for those of 16.
pub record Counted {P V : Type 0} (m : Meaning V) (y : Parts P V) (many : ℕ) (es os : List ℕ) : Type 0 where
  pub entry_room : length es ≡ 16
  pub output_room : length os ≡ 16
  pub each : (s : Setting V) (w : World V) → StandsFor m s w y → (t : ℕ) → t < many
      → (slice_index es t ≡ entries t (log_of w.past)) × (slice_index os t ≡ outputs t (sent_of w.past))
