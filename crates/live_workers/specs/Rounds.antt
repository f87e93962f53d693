-- A round of racing threads, by the recovering system.
use Rattle.std.specs.Prelude.{◌≡◌, ℕ, ◌<◌, List, [], ◌∷◌, length, slice_index_or, Option, None}
use Rattle.rand_pcg.specs.Lcg.{Lcg}
use Rattle.access_log.specs.Held.{Lane}
use Rattle.plain_machine.specs.Program.{Meaning}
use Rattle.plain_machine.specs.History.{Act, Took, Did, Emitted, Ended, Step, moves_of}
use Rattle.recovery_world.specs.declared.event.Event.TheVariants as event
use Rattle.recovery_world.specs.declared.event.Outcome.TheVariants as outcome
use Rattle.recovery_world.specs.Many.{Message}
use Rattle.recovery_world.specs.World.{Setting, World}
use Rattle.recovery_world.specs.Events.{On}
use Rattle.plan_script.specs.Orders.{Orders, AreLeft, first_ones}
use Rattle.plan_script.specs.Rounds.{AreWoven, HasStopped, frames_of, of_thread, step_events}
use Rattle.master_core.specs.Mastered.{Mastered}
use Rattle.master_core.specs.MasterStanding.{Stands}
use Rattle.system_parts.specs.Parts.{Parts}
use Rattle.system_parts.specs.Resting.{RestsFor}
use Rattle.recovery_core.specs.Systems.{Systemed, SystemStands}
use Rattle.round_join.specs.declared.noting.Noted.{Noted}
use Rattle.round_join.specs.Racing.{IsAfterSteps, PerformsNoted, StoppedAt, events_noted, steps_by}
use Rattle.live_workers.specs.declared.rounds.RoundStop.{RoundStop}
use Rattle.live_workers.specs.declared.rounds.RoundStop.TheVariants as stop
use Rattle.frame_intake.specs.Orders.{AreSome}
use Rattle.live_workers.specs.Frames.{frames_in}
use Rattle.live_workers.specs.Telling.{IsToldBy}

-- what the move of thread t was told, and how the generator of the thread went on
abbrev pub IsToldIn : {V : Type 0} → (ℕ → Type 0) → List Lane → ℕ → Act V → Lcg → Lcg → Type 0
IsToldIn may guide t (Took k) g new = new ≡ g
IsToldIn may guide t (Did e left) g new = IsToldBy may guide t e.number e.what g new
IsToldIn may guide t (Emitted o) g new = new ≡ g
IsToldIn may guide t (Ended k) g new = new ≡ g

-- Over steps of thread t, newest first, its generator went from g to new: a followed time or word is the recorded one;
-- a free time is one that the clock may answer, and a free word the generator's next.
abbrev pub StepsTold : {V : Type 0} → (ℕ → Type 0) → List Lane → ℕ → List (Step V) → Lcg → Lcg → Type 0
StepsTold may guide t [] g new = new ≡ g
StepsTold may guide t (x ∷ earlier) g new =
    (mid : Lcg) × StepsTold may guide t earlier g mid × IsToldIn may guide t x.act mid new

-- every thread is idle
abbrev pub AreIdle : {V : Type 0} → Setting V → World V → Type 0
AreIdle s w = (t : ℕ) → t < s.threads → On s w (event.Step t None) outcome.Idle [] w

-- A round from one world to another: the steps that its threads made, one after another in the woven order, lead there.
-- Each thread stopped where it may, and where none has a limit all are idle. These frames may arrive, and the
-- generators went on from those before to those after, one for each thread.
pub record IsRoundTo {V : Type 0} (s : Setting V) (w : World V) (orders : Orders) (may : ℕ → Type 0) (guide : List Lane)
    (before : List Lcg) (noted : List Noted) (arriving : List Message) (after : List Lcg)
    (there : World V) : Type 0 where
  pub steps : List (Step V)
  pub performs : PerformsNoted s w noted there
  pub events_are : events_noted noted ≡ step_events steps
  pub world : IsAfterSteps w steps there
  pub woven : AreWoven w.past steps
  pub stopped : (t : ℕ) → t < s.threads → HasStopped s there t (orders.moves t) (moves_of t steps)
  pub idle : ((t : ℕ) → t < s.threads → orders.moves t ≡ None) → AreIdle s there
  pub arrive : (t : ℕ) → AreLeft orders.lost (first_ones (orders.frames t) (frames_of t steps)) (of_thread t arriving)
  -- they arrive in the order of the steps that sent them
  pub in_order : AreSome (frames_in steps) arriving
  pub told : (t : ℕ) (g : Lcg) → t < s.threads
      → StepsTold may guide t (steps_by t steps) (slice_index_or before t g) (slice_index_or after t g)
  pub count : length after ≡ s.threads

-- such a round leads to a world for which the system stands
abbrev pub Rounds : {P V : Type 0} → Meaning V → Setting V → World V → Orders → (ℕ → Type 0) → List Lane → List Lcg
    → List Noted → List Message → List Lcg → Systemed P V → Type 0
Rounds {P} {V} m s w orders may guide before noted arriving after y =
    (there : World V) × IsRoundTo s w orders may guide before noted arriving after there × SystemStands m s there y

-- and to one for which the rest of it and a master do
abbrev pub RoundsRest : {P V : Type 0} → Meaning V → Setting V → World V → Orders → (ℕ → Type 0) → List Lane → List Lcg
    → List Noted → List Message → List Lcg → Mastered V → Parts P V → Type 0
RoundsRest {P} {V} m s w orders may guide before noted arriving after q y =
    (there : World V)
    × IsRoundTo s w orders may guide before noted arriving after there
    × RestsFor m s there y
    × Stands s.meaning s.threads there.past q

-- Where a round came to no end at a limit, these events were performed, the first of its steps, which stand as a plan's
-- round has them; and the next one would pass the limit. Where memory ran out, nothing is said.
abbrev pub StopsRound : {V : Type 0} → Setting V → World V → RoundStop → Type 0
StopsRound {V} s w (stop.Limit limit noted next) =
    (steps : List (Step V)) × AreWoven w.past steps × StoppedAt s w (step_events steps) noted.items limit next
StopsRound s w stop.NoMemory = Unit {0}
