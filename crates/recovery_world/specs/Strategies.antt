-- Strategies: in each phase and world, which event comes next and what its outcome leads to, or that there is none. One
-- relation follows a strategy, whatever it chooses. It stops before the first event that would pass a limit.
use Rattle.std.specs.Prelude.{◌≡◌, List, Option, Some, None}
use Rattle.plain_text.specs.declared.limit.Limit.{Limit}
use Rattle.recovery_world.specs.declared.event.Event.{Event}
use Rattle.recovery_world.specs.declared.event.Outcome.{Outcome}
use Rattle.recovery_world.specs.World.{Setting, Sent, World}
use Rattle.recovery_world.specs.Limits.{OnWithin, Passes}

-- an event, and the phase that its outcome leads to
pub record Choice (Q : Type 0) : Type 0 where
  pub event : Event
  pub leads_to : Outcome → Q

-- the next choice; none at the end
abbrev pub Strategy : Type 0 → Type 0 → Type 0
Strategy Q V = Q → World V → Option (Choice Q)

-- The events that the strategy chooses, one after another, to its end, or up to the first that would pass a limit.
pub data Follows {Q V : Type 0} (s : Setting V) (next : Strategy Q V) : Q → World V → Option Limit → World V
    → Type 0 where
  Ends : (q : Q) (w : World V) → next q w ≡ None → Follows s next q w None w
  Halts : (q : Q) (w : World V) (c : Choice Q) (limit : Limit) → next q w ≡ Some c → Passes s w c.event limit
      → Follows s next q w (Some limit) w
  Goes : {mid new : World V} {end : Option Limit} (q : Q) (w : World V) (c : Choice Q) (to : Outcome)
      (freed : List Sent) → next q w ≡ Some c → OnWithin s w c.event to freed mid
      → Follows s next (c.leads_to to) mid end new → Follows s next q w end new
