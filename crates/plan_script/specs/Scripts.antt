-- The scripts of a plan.
use Rattle.std.specs.Prelude.{◌≡◌, ◌⊎◌, ℕ, ◌-◌, true, false, List, [], ◌∷◌, ◌++◌, length}
use Rattle.recovery_world.specs.declared.event.Event.{Event}
use Rattle.recovery_world.specs.declared.event.Event.TheVariants as event
use Rattle.recovery_world.specs.World.{Setting, World, opening}
use Rattle.recovery_world.specs.Files.{Leaves}
use Rattle.recovery_laws.specs.Settled.{IsSettled}
use Rattle.plain_text.specs.declared.packet.Packet.{Packet}
use Rattle.plain_machine.specs.declared.plain_move.PlainMove.{PlainMove}
use Rattle.recovery_world.specs.Many.{all_messages}
use Rattle.plan_script.specs.declared.plan.PlanLine.{PlanLine}
use Rattle.plan_script.specs.declared.plan.PlanLine.TheVariants as line
use Rattle.plan_script.specs.Orders.{Orders, no_orders, orders_after}
use Rattle.plan_script.specs.Rounds.{Does, IsRound, arrival_events}

-- a round, which does nothing while the master is down
abbrev pub OnRound : {V : Type 0} → Setting V → World V → Orders → List Event → World V → Type 0
OnRound s w orders events new =
    ((w.up ≡ false) × (events ≡ []) × (new ≡ w)) ⊎ ((w.up ≡ true) × IsRound s w orders events new)

-- the recovery of a master that is down
abbrev pub Wakes : {V : Type 0} → World V → List Event → Type 0
Wakes w events = ((w.up ≡ true) × (events ≡ [])) ⊎ ((w.up ≡ false) × (events ≡ event.Recover ∷ []))

-- The first events of a settling: the master recovers if it is down, and the rest of the capture is fed.
abbrev pub feeding : {V : Type 0} → Setting V → World V → List Event → List Event
feeding s w wake = wake ++ event.Feed (length s.packets - w.fed) ∷ []

-- A settling: a recovery if the master is down, the rest of the capture is fed, a round without orders, and then each
-- entry and each output of the past arrives, by thread, then number.
pub record OnSettle {V : Type 0} (s : Setting V) (w : World V) (events : List Event) (new : World V) : Type 0 where
  pub wake : List Event
  pub wakes : Wakes w wake
  pub fed : World V
  pub feeds : Does s w (feeding s w wake) fed
  pub round : List Event
  pub ran : World V
  pub runs : IsRound s fed no_orders round ran
  pub arrive : Does s ran (arrival_events (all_messages s ran)) new
  pub events_are : events ≡ feeding s w wake ++ (round ++ arrival_events (all_messages s ran))

-- The part of a line of the plan: its events, and the world after them.
abbrev pub IsPart : {V : Type 0} → Setting V → World V → Orders → PlanLine → List Event → World V → Type 0
IsPart s w orders (line.Feed n) events new = (events ≡ event.Feed n ∷ []) × Does s w (event.Feed n ∷ []) new
IsPart s w orders (line.Limit t n) events new = (events ≡ []) × (new ≡ w)
IsPart s w orders (line.Take t n) events new = (events ≡ []) × (new ≡ w)
IsPart s w orders (line.Lose k t n) events new = (events ≡ []) × (new ≡ w)
IsPart s w orders line.Round events new = OnRound s w orders events new
IsPart s w orders line.Snap events new = (events ≡ event.Snap ∷ []) × Does s w (event.Snap ∷ []) new
IsPart s w orders line.Store events new = (events ≡ event.Store ∷ []) × Does s w (event.Store ∷ []) new
IsPart s w orders line.Crash events new = (events ≡ event.Crash ∷ []) × Does s w (event.Crash ∷ []) new
IsPart s w orders line.Recover events new = (events ≡ event.Recover ∷ []) × Does s w (event.Recover ∷ []) new
IsPart s w orders (line.Show v) events new = (events ≡ event.Show v ∷ []) × Does s w (event.Show v ∷ []) new
IsPart s w orders line.Settle events new = OnSettle s w events new

-- A script of these lines: the parts of them, one after another.
pub data IsScript {V : Type 0} (s : Setting V) : World V → Orders → List PlanLine → List Event → World V → Type 0 where
  Ends : (w : World V) (orders : Orders) → IsScript s w orders [] [] w
  Goes : {w mid new : World V} {lines : List PlanLine} {rest : List Event} (orders : Orders) (ln : PlanLine)
      (events : List Event) → IsPart s w orders ln events mid → IsScript s mid (orders_after ln orders) lines rest new
      → IsScript s w orders (ln ∷ lines) (events ++ rest) new

-- the orders behind some lines
abbrev pub orders_through : List PlanLine → Orders → Orders
orders_through [] orders = orders
orders_through (ln ∷ lines) orders = orders_through lines (orders_after ln orders)

-- A script of a plan is performed, event by event.
abbrev pub ScriptsPerform : Type 0 → Type 0
ScriptsPerform X =
    (s : Setting X) (w : World X) (orders : Orders) (lines : List PlanLine) (events : List Event) (new : World X)
    → IsScript s w orders lines events new → Does s w events new

-- A plan that ends in a settling: what its script leaves has released all, and each thread has taken and ended its
-- inputs of the whole capture.
abbrev pub PlansSettle : Type 0 → Type 0
PlansSettle X =
    (s : Setting X) (lines : List PlanLine) (events : List Event) (new : World X) (report : List ℕ)
    (released : List Packet) (schedule : List PlainMove)
    → IsScript s (opening X) no_orders (lines ++ line.Settle ∷ []) events new
    → (l : Leaves s events report released schedule) → IsSettled s l.world l.steps
