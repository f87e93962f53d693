-- The limits of a run: 2,000,000 moves of its masters, replays included, and 268,435,456 bytes that they send out.
use Rattle.std.specs.Prelude.{◌≡◌, ℕ, nat_lt, if◌then◌else◌, List, Option, Some, None}
use Rattle.plain_text.specs.declared.limit.TheConstants.{MOST_MOVES, MOST_OUTPUT_BYTES}
use Rattle.plain_text.specs.declared.limit.Limit.{Limit}
use Rattle.plain_text.specs.declared.limit.Limit.TheVariants as limit
use Rattle.recovery_world.specs.declared.event.Event.{Event}
use Rattle.recovery_world.specs.declared.event.Outcome.{Outcome}
use Rattle.recovery_world.specs.World.{Setting, Sent, World}
use Rattle.recovery_world.specs.Events.{On}

-- the limit that these numbers of moves and bytes pass, that of the moves where they pass both
abbrev pub limit_passed : ℕ → ℕ → Option Limit
limit_passed moves bytes =
    if nat_lt MOST_MOVES moves then Some limit.Moves else if nat_lt MOST_OUTPUT_BYTES bytes
    then Some limit.OutputBytes else None

abbrev pub IsWithin : {V : Type 0} → World V → Type 0
IsWithin w = limit_passed w.moves w.bytes ≡ None

-- The event, which is not one of several, passes no limit.
abbrev pub OnWithin : {V : Type 0} → Setting V → World V → Event → Outcome → List Sent → World V → Type 0
OnWithin s w ev to freed new = On s w ev to freed new × IsWithin new

-- The event, were it performed, would pass this limit.
pub record Passes {V : Type 0} (s : Setting V) (w : World V) (ev : Event) (limit : Limit) : Type 0 where
  pub to : Outcome
  pub freed : List Sent
  pub new : World V
  pub on : On s w ev to freed new
  pub passed : limit_passed new.moves new.bytes ≡ Some limit
