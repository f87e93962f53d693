-- The scripts that racing threads may make of a plan: what the threads of its rounds were told, too.
use Rattle.std.specs.Prelude.{◌≡◌, ◌⊎◌, ℕ, ◌<◌, true, false, List, [], ◌∷◌, ◌++◌, length, slice_index_or}
use Rattle.rand_pcg.specs.Lcg.{Lcg}
use Rattle.access_log.specs.Held.{Lane}
use Rattle.plain_machine.specs.History.{Step, log_of}
use Rattle.replay_guide.specs.Worlds.{Guides}
use Rattle.recovery_world.specs.declared.event.Event.{Event}
use Rattle.recovery_world.specs.World.{Setting, World}
use Rattle.live_workers.specs.FromRoundJoin.{steps_by}
use Rattle.plan_script.specs.declared.plan.PlanLine.{PlanLine}
use Rattle.plan_script.specs.declared.plan.PlanLine.TheVariants as line
use Rattle.plan_script.specs.Orders.{Orders, orders_after}
use Rattle.plan_script.specs.Rounds.{IsRound}
use Rattle.plan_script.specs.Scripts.{IsPart, IsScript, OnSettle}
use Rattle.live_workers.specs.Rounds.{StepsTold}

-- What the threads of a round were told, in these steps from this world: a followed time or word is the recorded one; a
-- free time is one that the clock may answer, and a free word the next one of the thread's generator. So the generators
-- went on from those before to those after.
pub record AreTold {V : Type 0} (s : Setting V) (may : ℕ → Type 0) (w : World V) (steps : List (Step V))
    (before after : List Lcg) : Type 0 where
  -- the entries to be followed, by thread
  pub guide : List Lane
  pub guides : Guides w.followed (log_of w.past) guide
  pub told : (t : ℕ) (g : Lcg) → t < s.threads
      → StepsTold may guide t (steps_by t steps) (slice_index_or before t g) (slice_index_or after t g)
  pub count : length after ≡ s.threads

-- a round, which does nothing while the master is down
abbrev pub IsToldRound : {V : Type 0} → Setting V → (ℕ → Type 0) → World V → Orders → List Event → World V → List Lcg
    → List Lcg → Type 0
IsToldRound s may w orders events new before after =
    ((w.up ≡ false) × (events ≡ []) × (new ≡ w) × (after ≡ before))
    ⊎ ((w.up ≡ true) × (round : IsRound s w orders events new) × AreTold s may w round.steps before after)

-- The part of a line, with what its threads were told. Only rounds draw words.
abbrev pub IsToldPart : {V : Type 0} → Setting V → (ℕ → Type 0) → World V → Orders → PlanLine → List Event → World V
    → List Lcg → List Lcg → Type 0
IsToldPart s may w orders (line.Feed n) events new before after =
    IsPart s w orders (line.Feed n) events new × (after ≡ before)
IsToldPart s may w orders (line.Limit t n) events new before after =
    IsPart s w orders (line.Limit t n) events new × (after ≡ before)
IsToldPart s may w orders (line.Take t n) events new before after =
    IsPart s w orders (line.Take t n) events new × (after ≡ before)
IsToldPart s may w orders (line.Lose k t n) events new before after =
    IsPart s w orders (line.Lose k t n) events new × (after ≡ before)
IsToldPart s may w orders line.Round events new before after = IsToldRound s may w orders events new before after
IsToldPart s may w orders line.Snap events new before after =
    IsPart s w orders line.Snap events new × (after ≡ before)
IsToldPart s may w orders line.Store events new before after =
    IsPart s w orders line.Store events new × (after ≡ before)
IsToldPart s may w orders line.Crash events new before after =
    IsPart s w orders line.Crash events new × (after ≡ before)
IsToldPart s may w orders line.Recover events new before after =
    IsPart s w orders line.Recover events new × (after ≡ before)
IsToldPart s may w orders (line.Show v) events new before after =
    IsPart s w orders (line.Show v) events new × (after ≡ before)
IsToldPart s may w orders line.Settle events new before after =
    (settle : OnSettle s w events new) × AreTold s may settle.fed settle.runs.steps before after

-- A script of these lines, with what the threads of its rounds were told: the parts of the lines, one after another.
pub data IsLiveScript {V : Type 0} (s : Setting V) (may : ℕ → Type 0) : World V → Orders → List Lcg → List PlanLine
    → List Event → World V → List Lcg → Type 0 where
  LiveEnds : (w : World V) (orders : Orders) (draws : List Lcg) → IsLiveScript s may w orders draws [] [] w draws
  LiveGoes : {w mid new : World V} {lines : List PlanLine} {rest : List Event} {before between after : List Lcg}
      (orders : Orders) (ln : PlanLine) (events : List Event) → IsToldPart s may w orders ln events mid before between
      → IsLiveScript s may mid (orders_after ln orders) between lines rest new after
      → IsLiveScript s may w orders before (ln ∷ lines) (events ++ rest) new after

-- It is a script of the plan, whatever the clock may answer.
abbrev pub LiveScriptsAreScripts : Type 0 → (ℕ → Type 0) → Type 0
LiveScriptsAreScripts X may =
    (s : Setting X) (w new : World X) (orders : Orders) (before after : List Lcg) (lines : List PlanLine)
    (events : List Event) → IsLiveScript s may w orders before lines events new after
    → IsScript s w orders lines events new
