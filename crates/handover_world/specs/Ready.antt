-- When a system may be handed over: its master is up, has made again all that it follows, and has sent out again all
-- that was released.
use Rattle.std.specs.Prelude.{◌≡◌, ◌↔◌, ◌≤◌, ℕ, true, false, List, length, Result, Ok, Err, ⊤}
use Rattle.entry_order.specs.Log.{Entry, IsIn}
use Rattle.plain_machine.specs.Agree.{SendsAfter}
use Rattle.recovery_laws.specs.Sound.{IsEachOnce}
use Rattle.recovery_world.specs.World.{Sent, World}
use Rattle.recovery_world.specs.Events.{Parts}
use Rattle.recovery_world.specs.Finish.{IsToCome}
use Rattle.handover_world.specs.declared.unready.Unready.{Unready}
use Rattle.handover_world.specs.declared.unready.Unready.TheVariants.{Down, Left, Behind}

-- so many followed entries are not made yet
pub record AreLeft {V : Type 0} (w : World V) (many : ℕ) : Type 0 where
  pub more : List Entry
  pub to_come : (e : Entry) → IsIn e more ↔ IsToCome w e
  pub once : IsEachOnce more
  pub many_are : length more ≡ many

-- so many released outputs are not of the past
pub record AreBehind {V : Type 0} (w : World V) (many : ℕ) : Type 0 where
  pub behind : List Sent
  pub others : List Sent
  pub parts : Parts (λ o. SendsAfter w.past o.emission o.after → ⊥) w.released behind others
  pub many_are : length behind ≡ many

-- whether the system of this world may be handed over
abbrev pub IsReadiness : {V : Type 0} → World V → Result ⊤ Unready → Type 0
IsReadiness w (Ok done) = (w.up ≡ true) × AreLeft w 0 × AreBehind w 0
IsReadiness w (Err Down) = w.up ≡ false
IsReadiness w (Err (Left many)) = (w.up ≡ true) × (1 ≤ many) × AreLeft w many
IsReadiness w (Err (Behind many)) = (w.up ≡ true) × AreLeft w 0 × (1 ≤ many) × AreBehind w many
