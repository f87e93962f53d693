-- The worlds that scripts lead to, and the histories of the box in them.
use Rattle.std.specs.Prelude.{◌≡◌, ◌⊎◌, ℕ, List, Some}
use Rattle.plain_text.specs.declared.limit.Limit.{Limit}
use Rattle.plain_machine.specs.History.{Step}
use Rattle.recovery_world.specs.declared.event.Event.{Event}
use Rattle.recovery_world.specs.World.{Setting, World, opening}
use Rattle.recovery_world.specs.Finish.{IsFinish}
use Rattle.recovery_world.specs.Many.{Stops}
use Rattle.recovery_world.specs.Files.{Performs}

-- The events of a script lead to the world; or those before one that stopped at a limit, and what that one did.
pub data IsLedTo {V : Type 0} (s : Setting V) : World V → Type 0 where
  Performed : {w : World V} (events : List Event) (lines : List ℕ) → Performs s (opening V) events lines w → IsLedTo s w
  Stopped : {mid w : World V} (events : List Event) (lines : List ℕ) (event : Event) (limit : Limit)
      → Performs s (opening V) events lines mid → Stops s mid event limit w → IsLedTo s w

-- a history of the world: that of its master, of its stored snapshot, of the one under way, or of a run in which it
-- ends
abbrev pub IsOfWorld : {V : Type 0} → Setting V → World V → List (Step V) → Type 0
IsOfWorld s w steps = (steps ≡ w.past) ⊎ ((steps ≡ w.stored) ⊎ ((w.copy ≡ Some steps) ⊎ IsFinish s w steps))
