-- A whole run by a plan.
use Rattle.std.specs.Prelude.{ℕ, List, Result, Ok, Err}
use Rattle.rand_pcg.specs.Lcg.{Lcg}
use Rattle.plain_text.specs.declared.limit.Limit.{Limit}
use Rattle.plain_machine.specs.Program.{Meaning}
use Rattle.world_io.specs.World.{Shown}
use Rattle.recovery_world.specs.declared.event.Event.{Event}
use Rattle.recovery_world.specs.World.{Setting, World as SystemWorld, opening}
use Rattle.run_writes.specs.declared.error.RunError.{RunError}
use Rattle.plan_script.specs.declared.plan.PlanLine.{PlanLine}
use Rattle.plan_script.specs.Orders.{no_orders}
use Rattle.plan_script.specs.Begun.{BeginsScript}
use Rattle.live_workers.specs.Draws.{generators_of}
use Rattle.live_writes.specs.Outputs.{LiveOutputs}
use Rattle.live_writes.specs.Script.{Scripted}
use Rattle.live_writes.specs.Told.{FailsLive, HasBegunLive}
use Rattle.live_writes.specs.Whole.{HasLived, HaltsLive, BeginsLive}
use Rattle.live_command.specs.declared.standing.Standing.{Standing}
use Rattle.live_command.specs.Going.{HasLivedTo}
use Rattle.live_command.specs.Telling.{IsLiveScript}

-- These events are a script of the plan, whose threads were told what the clock may answer and the words of their
-- generators; and the outputs are the files that they leave.
pub record LivesWhole {V : Type 0} (s : Setting V) (may : ℕ → Type 0) (plan : List PlanLine) (names : LiveOutputs)
    (old new : Shown) : Type 0 where
  pub events : List Event
  pub world : SystemWorld V
  pub draws : List Lcg
  pub script : IsLiveScript s may (opening V) no_orders (generators_of s.seed 0 s.threads) plan events world draws
  pub lived : HasLived s names events old new

-- It stopped at a limit, and these are the first events of a script of the plan.
pub record LivesToLimit {V : Type 0} (s : Setting V) (plan : List PlanLine) (names : LiveOutputs) (limit : Limit)
    (old new : Shown) : Type 0 where
  pub events : List Event
  pub begins : BeginsScript s (opening V) no_orders plan events
  pub halts : HaltsLive s names events limit old new

-- some first part of what a script of the plan writes was written, in its order, and nothing else
pub record LivesInOrder {V : Type 0} (s : Setting V) (plan : List PlanLine) (names : LiveOutputs)
    (old new : Shown) : Type 0 where
  pub events : List Event
  pub begins : BeginsScript s (opening V) no_orders plan events
  pub written : BeginsLive s names events old new

-- The lines of a plan were performed, or after an error the first events of them.
abbrev pub GoesPlan : {P V : Type 0} → Result (Standing P V) RunError → Meaning V → Setting V → LiveOutputs
    → (ℕ → Type 0) → List PlanLine → List ℕ → Scripted → Shown → Shown → Type 0
GoesPlan {P} {V} (Ok y) m s names may plan lines x old now =
    (events : List Event) × (world : SystemWorld V)
    × IsLiveScript s may (opening V) no_orders (generators_of s.seed 0 s.threads) plan events world y.draws
    × HasLivedTo m s names events world y.system lines x old now
GoesPlan {P} {V} (Err error) m s names may plan lines x old now =
    (events : List Event)
    × BeginsScript s (opening V) no_orders plan events
    × FailsLive error s names events old now

-- The run whose plan was performed was ended, and all was written; or after an error a first part of it.
abbrev pub EndsPlan : {A V : Type 0} → Result A RunError → Setting V → LiveOutputs → List Event → Shown → Shown → Type 0
EndsPlan (Ok done) s names events old new = HasLived s names events old new × HasBegunLive s names events old new
EndsPlan (Err error) s names events old new = HasBegunLive s names events old new

-- What a run by a plan came to, whose outputs were created.
abbrev pub RunsPlan : {A V : Type 0} → Result A RunError → Setting V → (ℕ → Type 0) → List PlanLine → LiveOutputs
    → Shown → Shown → Type 0
RunsPlan (Ok done) s may plan names old new = LivesWhole s may plan names old new × LivesInOrder s plan names old new
RunsPlan {A} {V} (Err error) s may plan names old new =
    (events : List Event) × BeginsScript s (opening V) no_orders plan events × FailsLive error s names events old new
