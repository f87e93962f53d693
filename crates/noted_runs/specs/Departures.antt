-- With which event each output left, and in which epoch.
use Rattle.std.specs.Prelude.{◌+◌, ◌-◌, List, [], ◌∷◌, ◌++◌, length, replicate}
use Rattle.recovery_world.specs.declared.event.Event.{Event}
use Rattle.recovery_world.specs.declared.event.Outcome.{Outcome}
use Rattle.recovery_world.specs.World.{Setting, Sent, World, opening}
use Rattle.recovery_world.specs.Many.{OnAny}
use Rattle.noted_runs.specs.declared.trace.rows.Departure.{Departure}

-- The events lead from the opening to this world, and the outputs that they released left so, in order of release:
-- those that are released behind an event, and were not before it, left with this event, and in the epoch behind it.
pub data Departs {V : Type 0} (s : Setting V) : List Event → List Departure → World V → Type 0 where
  Opens : Departs s [] [] (opening V)
  Goes : {events : List Event} {departures : List Departure} {w new : World V} (ev : Event) (to : Outcome)
      (freed : List Sent) → Departs s events departures w → OnAny s w ev to freed new
      → Departs s (events ++ ev ∷ [])
      (departures
      ++ replicate (length new.released - length departures)
      (record { event = length events + 1; epoch = new.epoch })) new
