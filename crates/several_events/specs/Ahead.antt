-- While threads take turns the system may be ahead of the definitions: entries arrived as soon as they were made.
use Rattle.std.specs.Prelude.{◌≡◌, ℕ, ◌⊎◌, true, List, [], ◌∷◌, None}
use Rattle.plain_text.specs.declared.kind.Kind.TheVariants as kind
use Rattle.access_log.specs.declared.entry.Output.{Output}
use Rattle.entry_order.specs.Log.{Entry, IsIn}
use Rattle.plain_machine.specs.Program.{Meaning}
use Rattle.plain_machine.specs.History.{log_of}
use Rattle.recovery_world.specs.declared.event.Event.{Event}
use Rattle.recovery_world.specs.declared.event.Event.TheVariants as event
use Rattle.recovery_world.specs.declared.event.Outcome.{Outcome}
use Rattle.recovery_world.specs.World.{Setting, Sent, World}
use Rattle.recovery_world.specs.Events.{IsKnown}
use Rattle.recovery_world.specs.Limits.{OnWithin}
use Rattle.recovery_world.specs.Many.{Message}
use Rattle.recovery_laws.specs.Sound.{Sound}
use Rattle.early_arrivals.specs.Early.{IsEarly}
use Rattle.system_parts.specs.Parts.{Parts}
use Rattle.system_parts.specs.Performing.{MovesOn, Releasing}
use Rattle.held_steps.specs.Holding.{StepsHeld}
use Rattle.several_events.specs.declared.progress.Progress.{Progress}
use Rattle.several_events.specs.declared.progress.Progress.TheVariants as progress
use Rattle.several_events.specs.Progressing.{messages_from, Reaches}

-- threads take turns
abbrev pub HasTurns : Progress → Type 0
HasTurns progress.Wakes = ⊥
HasTurns (progress.Steps left t moved) = Unit {0}
HasTurns (progress.Arrives k t arrived) = ⊥
HasTurns (progress.Chooses words left) = ⊥

-- The event is performed; or it is a step while threads take turns, and the entry that it logged may have arrived.
abbrev pub Performs : {V : Type 0} → Progress → Event → Outcome → Setting V → World V → World V → Type 0
Performs {V} further ev to s w next =
    ((freed : List Sent) × OnWithin s w ev to freed next)
    ⊎ (HasTurns further × (t : ℕ) × (ev ≡ event.Step t None) × StepsHeld t to s w next)

-- the message is among these
abbrev pub IsToArrive : Message → List Message → Type 0
IsToArrive m [] = ⊥
IsToArrive m (x ∷ messages) = (x ≡ m) ⊎ IsToArrive m messages

abbrev pub entry_message : Entry → Message
entry_message e = record { kind = kind.Log; thread = e.thread; number = e.number }

-- each entry of the past is known, or arrives with one of these messages
abbrev pub AllArrive : {V : Type 0} → World V → List Message → Type 0
AllArrive w messages = (e : Entry) → IsIn e (log_of w.past) → IsKnown w e ⊎ IsToArrive (entry_message e) messages

-- The system is ahead of this world, of which the threads take turns or the entries arrive.
abbrev pub IsAhead : {V : Type 0} → Setting V → Progress → World V → World V → Type 0
IsAhead s progress.Wakes w early = ⊥
IsAhead s (progress.Steps left t moved) w early = IsEarly w early × (w.up ≡ true)
IsAhead s (progress.Arrives kind.Log t arrived) w early =
    IsEarly w early × AllArrive w (messages_from s w kind.Log t arrived)
IsAhead s (progress.Arrives kind.Out t arrived) w early = ⊥
IsAhead s (progress.Chooses words left) w early = ⊥

-- The strategy goes on from there in a world, of which the system's is not ahead, or is.
pub record GoesAhead {V : Type 0} (from at : Progress) (s : Setting V) (w next : World V) : Type 0 where
  pub here : World V
  pub reaches : Reaches from at s w here
  pub sound : Sound s w → Sound s here
  pub ahead : (next ≡ here) ⊎ IsAhead s at here next

-- The parts stay, and the strategy goes on from there as it does from here.
abbrev pub GoesOnAs : {P V : Type 0} → Meaning V → Parts P V → Progress → Progress → Type 0
GoesOnAs {P} {V} m y at further =
    (from : Progress) (old : Parts P V) (list out : List Output)
    → MovesOn m (Releasing list out (GoesAhead from at)) old y
    → MovesOn m (Releasing list out (GoesAhead from further)) old y
