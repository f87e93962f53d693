-- What a round of racing threads may be, as events of a script: steps in the order in which they weave, and then
-- arrivals.
use Rattle.std.specs.Prelude.{◌≡◌, ◌⊎◌, ℕ, ◌≤◌, ◌<◌, List, [], ◌∷◌, ◌++◌, map, Option, Some, None, cond, nat_eq}
use Rattle.plain_text.specs.declared.kind.Kind.TheVariants as kind
use Rattle.entry_order.specs.Log.{Entry}
use Rattle.plain_machine.specs.History.{Act, Took, Did, Emitted, Ended, Step, log_of, moves_of}
use Rattle.plain_machine.specs.Continue.{IsQuiet, IsLed}
use Rattle.plain_machine.specs.Line.{IsByWeight}
use Rattle.recovery_world.specs.declared.event.Event.{Event}
use Rattle.recovery_world.specs.declared.event.Event.TheVariants as event
use Rattle.recovery_world.specs.declared.event.Outcome.TheVariants as outcome
use Rattle.recovery_world.specs.World.{Setting, World}
use Rattle.recovery_world.specs.Events.{On}
use Rattle.recovery_world.specs.Many.{Message, arrival}
use Rattle.recovery_world.specs.Files.{Performs, answer_of}
use Rattle.plan_script.specs.Orders.{Orders, first_ones, AreLeft}

-- the events of these steps, which stand newest first
abbrev pub step_events : {V : Type 0} → List (Step V) → List Event
step_events [] = []
step_events (x ∷ earlier) = step_events earlier ++ event.Step x.thread (answer_of x.act) ∷ []

abbrev pub arrival_events : List Message → List Event
arrival_events frames = map arrival frames

-- a thread sends one frame for each entry and each output
abbrev pub frames_by : {V : Type 0} → Act V → List Message
frames_by (Took k) = []
frames_by (Did e left) = (record { kind = kind.Log; thread = e.thread; number = e.number }) ∷ []
frames_by (Emitted o) = (record { kind = kind.Out; thread = o.thread; number = o.number }) ∷ []
frames_by (Ended k) = []

-- those that the thread sent in these steps, in order
abbrev pub frames_of : {V : Type 0} → ℕ → List (Step V) → List Message
frames_of t [] = []
frames_of t (x ∷ earlier) = cond (nat_eq x.thread t) (frames_of t earlier ++ frames_by x.act) (frames_of t earlier)

-- those of the thread among frames of all threads
abbrev pub of_thread : ℕ → List Message → List Message
of_thread t [] = []
of_thread t (f ∷ frames) = cond (nat_eq f.thread t) (f ∷ of_thread t frames) (of_thread t frames)

-- none of them is of a thread after this one
abbrev pub NoneIsLater : {V : Type 0} → ℕ → List (Step V) → Type 0
NoneIsLater t [] = Unit {0}
NoneIsLater t (y ∷ rest) = (y.thread ≤ t) × NoneIsLater t rest

-- none is logged, and they stand thread by thread
abbrev pub AreByThread : {V : Type 0} → List (Step V) → Type 0
AreByThread [] = Unit {0}
AreByThread (x ∷ earlier) = IsQuiet x.act × NoneIsLater x.thread earlier × AreByThread earlier

-- The steps after a past stand in the order in which rounds weave: the logged ones by weight, then thread, each after
-- the moves of its thread that lead to it; and then, thread by thread, the others.
pub record AreWoven {V : Type 0} (past steps : List (Step V)) : Type 0 where
  pub left : List (Step V)
  pub led : List (Step V)
  pub parts : steps ≡ left ++ led
  pub more : List Entry
  pub in_order : IsByWeight (log_of (led ++ past)) more
  pub led_on : IsLed past more (led ++ past)
  pub rest : AreByThread left

-- At the end of the steps the thread made as many moves as it may, or is idle, or waits; and never more.
pub record HasStopped {V : Type 0} (s : Setting V) (w : World V) (t : ℕ) (limit : Option ℕ) (made : ℕ) : Type 0 where
  pub few : (n : ℕ) → limit ≡ Some n → made ≤ n
  pub why :
      (limit ≡ Some made)
      ⊎ (On s w (event.Step t None) outcome.Idle [] w
      ⊎ ((u : ℕ) × (n : ℕ) × On s w (event.Step t None) (outcome.Waits u n) [] w))

-- these events are performed
abbrev pub Does : {V : Type 0} → Setting V → World V → List Event → World V → Type 0
Does s w events new = (lines : List ℕ) × Performs s w events lines new

-- Threads raced: their steps, one after another in the woven order, lead there, and each thread stopped where it may.
-- Then these messages are to arrive.
pub record IsRace {V : Type 0} (s : Setting V) (w : World V) (orders : Orders) (steps : List (Step V)) (there : World V)
    (arrivals : List Message) : Type 0 where
  pub go : Does s w (step_events steps) there
  pub past : there.past ≡ steps ++ w.past
  pub woven : AreWoven w.past steps
  pub stopped : (t : ℕ) → t < s.threads → HasStopped s there t (orders.moves t) (moves_of t steps)
  pub arrived : (t : ℕ) → AreLeft orders.lost (first_ones (orders.frames t) (frames_of t steps)) (of_thread t arrivals)

-- A round while the master is up: threads race, and then the messages arrive.
pub record IsRound {V : Type 0} (s : Setting V) (w : World V) (orders : Orders) (events : List Event)
    (new : World V) : Type 0 where
  pub steps : List (Step V)
  pub there : World V
  pub arrivals : List Message
  pub race : IsRace s w orders steps there arrivals
  pub arrive : Does s there (arrival_events arrivals) new
  pub events_are : events ≡ step_events steps ++ arrival_events arrivals
