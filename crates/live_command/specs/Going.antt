-- A run by a plan goes on: what performing its events, its rounds and its lines came to.
use Rattle.std.specs.Prelude.{◌≡◌, ℕ, ◌<◌, ◌≤◌, true, List, ◌++◌, Option, Some, None, Result, Ok, Err}
use Rattle.plain_text.specs.declared.limit.Limit.{Limit}
use Rattle.rand_pcg.specs.Lcg.{Lcg}
use Rattle.plain_machine.specs.Program.{Meaning}
use Rattle.world_io.specs.World.{Shown}
use Rattle.recovery_world.specs.declared.event.Event.{Event}
use Rattle.recovery_world.specs.declared.event.Event.TheVariants as event
use Rattle.recovery_world.specs.Many.{Message}
use Rattle.recovery_world.specs.World.{Setting, World as SystemWorld}
use Rattle.run_command.specs.FromRecoveryCore.{Systemed}
use Rattle.run_writes.specs.declared.error.RunError.{RunError}
use Rattle.run_command.specs.Running.{IsSystemAt}
use Rattle.plan_script.specs.declared.plan.PlanLine.{PlanLine}
use Rattle.plan_script.specs.declared.plan.PlanLine.TheVariants as line
use Rattle.plan_script.specs.Orders.{Orders, orders_after}
use Rattle.plain_machine.specs.declared.plain_move.PlainMove.{PlainMove}
use Rattle.plain_machine.specs.History.{Step}
use Rattle.live_workers.specs.FromRoundJoin.{Noted}
use Rattle.live_workers.specs.FromRoundJoin.{StoppedAt}
use Rattle.plan_script.specs.Rounds.{AreWoven, Does, IsRound, arrival_events, step_events}
use Rattle.plan_script.specs.Scripts.{OnSettle, Wakes, feeding}
use Rattle.plan_script.specs.Begun.{AreFirstOf, BeginsPart, BeginsRound, BeginsSettle, IsCutRace}
use Rattle.live_writes.specs.Outputs.{LiveOutputs}
use Rattle.live_writes.specs.Script.{Scripted}
use Rattle.live_writes.specs.Told.{HasTold, FailsLive, IsStopped}
use Rattle.live_command.specs.declared.standing.Standing.{Standing}
use Rattle.live_command.specs.Telling.{AreTold, IsToldPart, IsToldRound}

-- The orders are the same for the threads that there may be.
pub record SameOrders (a b : Orders) : Type 0 where
  pub moves : (t : ℕ) → t < 16 → a.moves t ≡ b.moves t
  pub frames : (t : ℕ) → t < 16 → a.frames t ≡ b.frames t
  pub lost : a.lost ≡ b.lost

-- The events were performed and lead to this world, what they leave was written but for what is gathered, and the
-- system, of at most 16 threads, is at the world.
pub record HasLivedTo {P V : Type 0} (m : Meaning V) (s : Setting V) (names : LiveOutputs) (events : List Event)
    (w : SystemWorld V) (y : Systemed P V) (lines : List ℕ) (x : Scripted) (old now : Shown) : Type 0 where
  pub told : HasTold s names events events w lines x old now
  pub at : IsSystemAt m s w y
  pub few : s.threads ≤ 16

-- From each world that the system was at, the events lead to one that it is at now.
abbrev pub MovesBy : {P V : Type 0} → Meaning V → List Event → Systemed P V → Systemed P V → Type 0
MovesBy {P} {V} m events old new =
    (s : Setting V) (w : SystemWorld V) → IsSystemAt m s w old
    → (next : SystemWorld V) × Does s w events next × IsSystemAt m s next new

-- These events came behind those before them, or after an error the first of them.
abbrev pub GoesOver : {A P V : Type 0} → Result A RunError → Meaning V → Setting V → LiveOutputs → SystemWorld V
    → List Event → List Event → Systemed P V → List ℕ → Scripted → Shown → Shown → Type 0
GoesOver {A} {P} {V} (Ok done) m s names w events part y lines x old now =
    (next : SystemWorld V) × Does s w part next × HasLivedTo m s names (events ++ part) next y lines x old now
GoesOver (Err error) m s names w events part y lines x old now =
    (first : List Event) × AreFirstOf part first × FailsLive error s names (events ++ first) old now

-- The same of events that are steps of a round, whose system stands at its end already.
abbrev pub NotesOver : {A V : Type 0} → Result A RunError → Setting V → LiveOutputs → List Event → List Event
    → SystemWorld V → List ℕ → Scripted → Shown → Shown → Type 0
NotesOver (Ok done) s names events part there lines x old now =
    HasTold s names (events ++ part) (events ++ part) there lines x old now
NotesOver (Err error) s names events part there lines x old now =
    (first : List Event) × AreFirstOf part first × FailsLive error s names (events ++ first) old now

-- A round came behind the events before it.
abbrev pub GoesRound : {P V : Type 0} → Result (Standing P V) RunError → Meaning V → Setting V → LiveOutputs
    → (ℕ → Type 0) → SystemWorld V → Orders → List Lcg → List Event → List ℕ → Scripted → Shown → Shown → Type 0
GoesRound {P} {V} (Ok y) m s names may w orders draws events lines x old now =
    (part : List Event) × (next : SystemWorld V) × (round : IsRound s w orders part next)
    × AreTold s may w round.steps draws y.draws
    × HasLivedTo m s names (events ++ part) next y.system lines x old now
GoesRound (Err error) m s names may w orders draws events lines x old now =
    (part : List Event) × BeginsRound s w orders part × FailsLive error s names (events ++ part) old now

-- A settling did.
abbrev pub GoesSettle : {P V : Type 0} → Result (Standing P V) RunError → Meaning V → Setting V → LiveOutputs
    → (ℕ → Type 0) → SystemWorld V → List Lcg → List Event → List ℕ → Scripted → Shown → Shown → Type 0
GoesSettle {P} {V} (Ok y) m s names may w draws events lines x old now =
    (part : List Event) × (next : SystemWorld V) × (settle : OnSettle s w part next)
    × AreTold s may settle.fed settle.runs.steps draws y.draws
    × HasLivedTo m s names (events ++ part) next y.system lines x old now
GoesSettle (Err error) m s names may w draws events lines x old now =
    (part : List Event) × BeginsSettle s w part × FailsLive error s names (events ++ part) old now

-- the event that a line is, where it is one event whatever the orders and the world
abbrev pub event_of_line : PlanLine → Option Event
event_of_line (line.Feed n) = Some (event.Feed n)
event_of_line (line.Limit t n) = None
event_of_line (line.Take t n) = None
event_of_line (line.Lose k t n) = None
event_of_line line.Round = None
event_of_line line.Snap = Some event.Snap
event_of_line line.Store = Some event.Store
event_of_line line.Crash = Some event.Crash
event_of_line line.Recover = Some event.Recover
event_of_line (line.Show v) = Some (event.Show v)
event_of_line line.Settle = None

-- A line of the plan did.
abbrev pub GoesLine : {P V : Type 0} → Result (Standing P V) RunError → Meaning V → Setting V → LiveOutputs
    → (ℕ → Type 0) → SystemWorld V → Orders → PlanLine → List Lcg → List Event → Orders → List ℕ → Scripted → Shown
    → Shown → Type 0
GoesLine {P} {V} (Ok y) m s names may w orders ln draws events after lines x old now =
    (part : List Event) × (next : SystemWorld V) × IsToldPart s may w orders ln part next draws y.draws
    × SameOrders (orders_after ln orders) after
    × HasLivedTo m s names (events ++ part) next y.system lines x old now
GoesLine (Err error) m s names may w orders ln draws events after lines x old now =
    (part : List Event) × BeginsPart s w orders ln part × FailsLive error s names (events ++ part) old now

-- The steps of a round, which lead there, and then these messages came behind the events before them.
abbrev pub GoesRace : {A P V : Type 0} → Result A RunError → Meaning V → Setting V → LiveOutputs → SystemWorld V
    → List Event → List Event → List Message → Systemed P V → List ℕ → Scripted → Shown → Shown → Type 0
GoesRace {A} {P} {V} (Ok done) m s names there events part arriving y lines x old now =
    (next : SystemWorld V) × Does s there (arrival_events arriving) next
    × HasLivedTo m s names (events ++ (part ++ arrival_events arriving)) next y lines x old now
GoesRace (Err error) m s names there events part arriving y lines x old now =
    (first : List Event) × AreFirstOf (part ++ arrival_events arriving) first
    × FailsLive error s names (events ++ first) old now

-- A race stopped at this limit: its steps stand as they weave, the first of them are noted, and this is the next one.
abbrev pub StopsAtStep : {V : Type 0} → Setting V → SystemWorld V → Limit → List Noted → PlainMove → Type 0
StopsAtStep {V} s w limit noted next =
    (steps : List (Step V)) × AreWoven w.past steps × StoppedAt s w (step_events steps) noted limit next

-- The first steps of a race that stopped at this limit, and the one at which it stopped, are told and written.
abbrev pub StopsRace : {A V : Type 0} → Result A RunError → Setting V → LiveOutputs → SystemWorld V → Limit
    → List Event → Shown → Shown → Type 0
StopsRace (Ok done) s names w limit events old now =
    (part : List Event) × IsCutRace s w part × IsStopped s names (events ++ part) limit old now
StopsRace (Err error) s names w limit events old now =
    (part : List Event) × IsCutRace s w part × FailsLive error s names (events ++ part) old now

-- The first events of a settling came: the master is up, and the rest of the capture was fed.
abbrev pub GoesFed : {A P V : Type 0} → Result A RunError → Meaning V → Setting V → LiveOutputs → SystemWorld V
    → List Event → Systemed P V → List ℕ → Scripted → Shown → Shown → Type 0
GoesFed {A} {P} {V} (Ok done) m s names w events y lines x old now =
    (wake : List Event) × (fed : SystemWorld V) × Wakes w wake × Does s w (feeding s w wake) fed × (fed.up ≡ true)
    × HasLivedTo m s names (events ++ feeding s w wake) fed y lines x old now
GoesFed (Err error) m s names w events y lines x old now =
    (wake : List Event) × (first : List Event) × Wakes w wake × AreFirstOf (feeding s w wake) first
    × FailsLive error s names (events ++ first) old now

-- the system of what is given on, or this one
abbrev pub standing_in : {P V : Type 0} → Result (Standing P V) RunError → Systemed P V → Systemed P V
standing_in (Ok y) system = y.system
standing_in (Err error) system = system

-- A round came, or nothing where the master is down.
abbrev pub GoesToldRound : {P V : Type 0} → Result (Standing P V) RunError → Meaning V → Setting V → LiveOutputs
    → (ℕ → Type 0) → SystemWorld V → Orders → List Lcg → List Event → List ℕ → Scripted → Shown → Shown → Type 0
GoesToldRound {P} {V} (Ok y) m s names may w orders draws events lines x old now =
    (part : List Event) × (next : SystemWorld V) × IsToldRound s may w orders part next draws y.draws
    × HasLivedTo m s names (events ++ part) next y.system lines x old now
GoesToldRound (Err error) m s names may w orders draws events lines x old now =
    (part : List Event) × BeginsRound s w orders part × FailsLive error s names (events ++ part) old now
