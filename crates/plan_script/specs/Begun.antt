-- What was performed of a plan that came to no end: the first events of a script.
use Rattle.std.specs.Prelude.{◌≡◌, ◌⊎◌, true, List, [], ◌∷◌, ◌++◌}
use Rattle.plain_machine.specs.History.{Step}
use Rattle.recovery_world.specs.declared.event.Event.{Event}
use Rattle.recovery_world.specs.declared.event.Event.TheVariants as event
use Rattle.recovery_world.specs.World.{Setting, World}
use Rattle.recovery_world.specs.Many.{Message, all_messages}
use Rattle.plan_script.specs.declared.plan.PlanLine.{PlanLine}
use Rattle.plan_script.specs.declared.plan.PlanLine.TheVariants as line
use Rattle.plan_script.specs.Orders.{Orders, no_orders, orders_after}
use Rattle.plan_script.specs.Rounds.{AreWoven, Does, IsRace, IsRound, arrival_events, step_events}
use Rattle.plan_script.specs.Scripts.{IsPart, Wakes, feeding}

-- the first of these events
abbrev pub AreFirstOf : List Event → List Event → Type 0
AreFirstOf all events = (rest : List Event) × (all ≡ events ++ rest)

-- The first events of a race that came to no end: its threads made these steps, which stand as they weave.
pub record IsCutRace {V : Type 0} (s : Setting V) (w : World V) (events : List Event) : Type 0 where
  pub steps : List (Step V)
  pub woven : AreWoven w.past steps
  pub first : AreFirstOf (step_events steps) events

-- The first events of a round whose race came to its end.
pub record IsCutRound {V : Type 0} (s : Setting V) (w : World V) (orders : Orders) (events : List Event) : Type 0 where
  pub steps : List (Step V)
  pub there : World V
  pub arrivals : List Message
  pub race : IsRace s w orders steps there arrivals
  pub first : AreFirstOf (step_events steps ++ arrival_events arrivals) events

abbrev pub BeginsRound : {V : Type 0} → Setting V → World V → Orders → List Event → Type 0
BeginsRound s w orders events = (w.up ≡ true) × (IsCutRace s w events ⊎ IsCutRound s w orders events)

-- The first events of a settling, of which a round was begun.
pub record IsCutSettle {V : Type 0} (s : Setting V) (w : World V) (events : List Event) : Type 0 where
  pub wake : List Event
  pub wakes : Wakes w wake
  pub fed : World V
  pub feeds : Does s w (feeding s w wake) fed
  pub round : List Event
  pub begins : BeginsRound s fed no_orders round
  pub events_are : events ≡ feeding s w wake ++ round

-- The first events of a settling whose round came to its end.
pub record IsCutArrival {V : Type 0} (s : Setting V) (w : World V) (events : List Event) : Type 0 where
  pub wake : List Event
  pub wakes : Wakes w wake
  pub fed : World V
  pub feeds : Does s w (feeding s w wake) fed
  pub round : List Event
  pub ran : World V
  pub runs : IsRound s fed no_orders round ran
  pub first : AreFirstOf (feeding s w wake ++ (round ++ arrival_events (all_messages s ran))) events

abbrev pub BeginsSettle : {V : Type 0} → Setting V → World V → List Event → Type 0
BeginsSettle s w events =
    ((wake : List Event) × Wakes w wake × AreFirstOf (feeding s w wake) events)
    ⊎ (IsCutSettle s w events ⊎ IsCutArrival s w events)

-- The first events of the part of a line.
abbrev pub BeginsPart : {V : Type 0} → Setting V → World V → Orders → PlanLine → List Event → Type 0
BeginsPart s w orders (line.Feed n) events = AreFirstOf (event.Feed n ∷ []) events
BeginsPart s w orders (line.Limit t n) events = events ≡ []
BeginsPart s w orders (line.Take t n) events = events ≡ []
BeginsPart s w orders (line.Lose k t n) events = events ≡ []
BeginsPart s w orders line.Round events = (events ≡ []) ⊎ BeginsRound s w orders events
BeginsPart s w orders line.Snap events = AreFirstOf (event.Snap ∷ []) events
BeginsPart s w orders line.Store events = AreFirstOf (event.Store ∷ []) events
BeginsPart s w orders line.Crash events = AreFirstOf (event.Crash ∷ []) events
BeginsPart s w orders line.Recover events = AreFirstOf (event.Recover ∷ []) events
BeginsPart s w orders (line.Show v) events = AreFirstOf (event.Show v ∷ []) events
BeginsPart s w orders line.Settle events = BeginsSettle s w events

-- The first events of a script of these lines: none, or those of the first line and maybe of more.
pub data BeginsScript {V : Type 0} (s : Setting V) : World V → Orders → List PlanLine → List Event → Type 0 where
  BeginsNone : (w : World V) (orders : Orders) (lines : List PlanLine) → BeginsScript s w orders lines []
  BeginsHere : (w : World V) (orders : Orders) (ln : PlanLine) (lines : List PlanLine) (events : List Event)
      → BeginsPart s w orders ln events → BeginsScript s w orders (ln ∷ lines) events
  BeginsLater : {w mid : World V} {lines : List PlanLine} {rest : List Event} (orders : Orders) (ln : PlanLine)
      (events : List Event) → IsPart s w orders ln events mid
      → BeginsScript s mid (orders_after ln orders) lines rest
      → BeginsScript s w orders (ln ∷ lines) (events ++ rest)
