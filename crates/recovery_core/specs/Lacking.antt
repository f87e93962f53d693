-- What an output lacks for its release, in the world of the definitions.
use Rattle.std.specs.Prelude.{◌≡◌, ℕ, ◌⊎◌}
use Rattle.entry_order.specs.Log.{Entry}
use Rattle.entry_order.specs.Closed.{IsFirstMissing}
use Rattle.plain_machine.specs.History.{log_of}
use Rattle.recovery_world.specs.World.{Sent, World}
use Rattle.recovery_world.specs.Events.{HasNumber, IsAmong, IsOutputOf, MayGo}
use Rattle.recovery_core.specs.declared.lacking.Lacks.{Lacks}
use Rattle.recovery_core.specs.declared.lacking.Lacks.TheVariants as lacks

-- output j of thread t was released
abbrev pub WasReleased : {V : Type 0} → World V → ℕ → ℕ → Type 0
WasReleased w t j = (o : Sent) × HasNumber t j o × IsAmong o w.released

-- Output j of thread t was sent out by the present master, and was not released: this entry is the first one that is
-- missing for it, or none is, and it has not arrived itself. Or it is none of these outputs.
abbrev pub OutputLacks : {V : Type 0} → World V → ℕ → ℕ → Lacks → Type 0
OutputLacks w t j (lacks.Entry u m) =
    (o : Sent)
    × (e : Entry)
    × IsOutputOf w t j o
    × (WasReleased w t j → ⊥)
    × IsFirstMissing (log_of w.past) (log_of w.stored) w.held o.emission.thread o.after e
    × (e.thread ≡ u)
    × (e.number ≡ m)
OutputLacks w t j lacks.Arrival = (o : Sent) × IsOutputOf w t j o × (WasReleased w t j → ⊥) × MayGo w o
OutputLacks w t j lacks.NotSent = WasReleased w t j ⊎ ((o : Sent) → IsOutputOf w t j o → ⊥)
