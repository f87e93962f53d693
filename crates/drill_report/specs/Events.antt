-- The events of a drill: as often as there are packets for, some come in, a snapshot is made and arrives, and the
-- master crashes and recovers; and then all is settled. And those of the run beside it, in which nothing crashes.
use Rattle.std.specs.Prelude.{ℕ, zero, suc, ◌+◌, ◌/◌, ◌%◌, min, List, [], ◌∷◌, ◌++◌}
use Rattle.recovery_world.specs.declared.event.Event.{Event}
use Rattle.recovery_world.specs.declared.event.Event.TheVariants as event

-- the least number of times that so many packets feed all of these
abbrev pub rounds : ℕ → ℕ → ℕ
rounds every packets = packets / every + min 1 (packets % every)

-- these events, so many times
abbrev pub repeated : ℕ → List Event → List Event
repeated zero events = []
repeated (suc n) events = events ++ repeated n events

-- so many packets come in, and the master crashes behind a snapshot and recovers
abbrev pub crash_round : ℕ → List Event
crash_round every = event.Flow every ∷ event.Snap ∷ event.Store ∷ event.Crash ∷ event.Recover ∷ []

-- so many packets come in
abbrev pub calm_round : ℕ → List Event
calm_round every = event.Flow every ∷ []

-- the events of a drill on so many packets
abbrev pub drill_events : ℕ → ℕ → List Event
drill_events every packets = repeated (rounds every packets) (crash_round every) ++ event.Settle ∷ []

-- the same without crash, snapshot and recovery
abbrev pub calm_events : ℕ → ℕ → List Event
calm_events every packets = repeated (rounds every packets) (calm_round every) ++ event.Settle ∷ []
