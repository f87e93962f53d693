-- Events that are done by themselves.
use Rattle.std.specs.Prelude.{◌≡◌, Bool, false}
use Rattle.recovery_world.specs.declared.event.Event.{Event}
use Rattle.recovery_world.specs.declared.event.Event.TheVariants as event

-- an event that is done by itself: not one of several, as a flow is while the master is up
abbrev pub IsSingle : Bool → Event → Type 0
IsSingle up (event.Feed n) = Unit {0}
IsSingle up (event.Time n) = Unit {0}
IsSingle up (event.Step t given) = Unit {0}
IsSingle up (event.Log t n) = Unit {0}
IsSingle up (event.Out t n) = Unit {0}
IsSingle up (event.Late e k t n) = Unit {0}
IsSingle up (event.Cut k t n len) = Unit {0}
IsSingle up event.Snap = Unit {0}
IsSingle up event.Store = Unit {0}
IsSingle up event.Crash = Unit {0}
IsSingle up event.Recover = Unit {0}
IsSingle up (event.Show v) = Unit {0}
IsSingle up event.Settle = ⊥
IsSingle up (event.Flow n) = up ≡ false
IsSingle up (event.Auto seed n) = ⊥
