-- Entries that arrive as soon as they are made, before the threads' later moves: what differs then, and until when.
use Rattle.std.specs.Prelude.{◌≡◌, ℕ, ◌⊎◌, ◌↔◌, List, ◌∷◌, Option}
use Rattle.entry_order.specs.Log.{Entry, IsIn, PrecedesOutput}
use Rattle.plain_machine.specs.History.{log_of}
use Rattle.recovery_world.specs.declared.event.Event.{Event}
use Rattle.recovery_world.specs.declared.event.Event.TheVariants as event
use Rattle.recovery_world.specs.declared.event.Outcome.{Outcome}
use Rattle.recovery_world.specs.World.{Setting, Sent, World}
use Rattle.recovery_world.specs.Events.{IsAmong}
use Rattle.recovery_world.specs.Limits.{OnWithin}
use Rattle.recovery_laws.specs.Sound.{Sound}

-- the world, with these entries held
abbrev pub with_held : {V : Type 0} → World V → List Entry → World V
with_held w held = record w { held = held }

-- These are the entries that are held, and some of the past that are neither held nor stored. No output that waits has
-- one of those among its predecessors.
pub record IsAhead {V : Type 0} (w : World V) (held : List Entry) : Type 0 where
  pub keeps : (e : Entry) → IsIn e w.held → IsIn e held
  pub more : (e : Entry) → IsIn e held → IsIn e w.held ⊎ (IsIn e (log_of w.past) × (IsIn e (log_of w.stored) → ⊥))
  pub unwanted : (o : Sent) (e : Entry) → IsAmong o w.waiting
      → PrecedesOutput (log_of w.past) o.emission.thread o.after e → IsIn e held → IsIn e w.held

-- the one world is the other, but that some entries arrived early
pub record IsEarly {V : Type 0} (w early : World V) : Type 0 where
  pub held : List Entry
  pub same : early ≡ with_held w held
  pub ahead : IsAhead w held

-- the one world is the other: the entries held are the same set
pub record IsSameSet {V : Type 0} (w other : World V) : Type 0 where
  pub held : List Entry
  pub same : other ≡ with_held w held
  pub members : (e : Entry) → IsIn e held ↔ IsIn e w.held

-- a move of a thread, or a feeding of packets
pub data IsMoving : Event → Type 0 where
  OfThread : (t : ℕ) (given : Option ℕ) → IsMoving (event.Step t given)
  OfPackets : (n : ℕ) → IsMoving (event.Feed n)

-- Nothing arrives behind the event. Or it made an entry, and that arrives.
abbrev pub MayArrive : {V : Type 0} → Setting V → World V → World V → World V → Type 0
MayArrive s w next new =
    (new ≡ next)
    ⊎ ((e : Entry) × (log_of next.past ≡ e ∷ log_of w.past) × (to : Outcome) × (freed : List Sent)
    × OnWithin s next (event.Log e.thread e.number) to freed new)

-- The world behind does the same by the event, and is behind again.
pub record GoesBehind {V : Type 0} (s : Setting V) (w : World V) (ev : Event) (to : Outcome) (freed : List Sent)
    (early : World V) : Type 0 where
  pub new : World V
  pub on : OnWithin s w ev to freed new
  pub sound : Sound s new
  pub early_sound : Sound s early
  pub is_early : IsEarly new early

-- The entry arrives in the world behind, and releases the same.
pub record LogsBehind {V : Type 0} (s : Setting V) (w : World V) (t n : ℕ) (freed : List Sent) (early : World V)
    : Type 0 where
  pub to : Outcome
  pub new : World V
  pub on : OnWithin s w (event.Log t n) to freed new
  pub is_early : IsEarly new early
