-- How a system that is ready comes to rest, so that an image has all of it.
use Rattle.std.specs.Prelude.{List}
use Rattle.recovery_world.specs.declared.event.Event.{Event}
use Rattle.recovery_world.specs.declared.event.Event.TheVariants.{Snap, Store, Crash, Recover}
use Rattle.recovery_world.specs.declared.event.Outcome.{Outcome}
use Rattle.recovery_world.specs.World.{Setting, Sent, World}
use Rattle.recovery_world.specs.Many.{OnAny}

-- the event leads to this world, whatever its outcome and what it releases
abbrev pub LeadsTo : {V : Type 0} → Setting V → World V → Event → World V → Type 0
LeadsTo s w ev new = (to : Outcome) × (freed : List Sent) × OnAny s w ev to freed new

-- A snapshot is made and stored, the master crashes, and a new one recovers.
pub record ComesToRest {V : Type 0} (s : Setting V) (w new : World V) : Type 0 where
  pub copied : World V
  pub snap : LeadsTo s w Snap copied
  pub stored : World V
  pub store : LeadsTo s copied Store stored
  pub down : World V
  pub crash : LeadsTo s stored Crash down
  pub recover : LeadsTo s down Recover new
