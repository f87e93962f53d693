-- A system that performs the events of a drill.
use Rattle.std.specs.Prelude.{◌≡◌, ◌++◌, ◌∷◌, ℕ, List}
use Rattle.plain_machine.specs.Program.{Meaning}
use Rattle.plain_text.specs.declared.limit.Limit.{Limit}
use Rattle.recovery_world.specs.declared.event.Event.{Event}
use Rattle.recovery_world.specs.World.{Setting, World as SystemWorld, opening}
use Rattle.recovery_world.specs.Many.{Stops}
use Rattle.recovery_core.specs.Systems.{HasReleased, SystemStands, Systemed}
use Rattle.run_writes.specs.Replies.{Answers, Reply}
use Rattle.drill_report.specs.Report.{Replays}

-- The events were performed from the opening, and the system stands for their world. Nothing was handed over.
pub record HasPerformed {P V : Type 0} (m : Meaning V) (s : Setting V) (events : List Event) (n : ℕ)
    (y : Systemed P V) : Type 0 where
  pub replies : List Reply
  pub world : SystemWorld V
  pub answers : Answers s events replies world
  pub replays : Replays s events n world
  pub stands : SystemStands m s world y
  pub handed : y.handed ≡ 0

-- An event stopped at this limit, and what was released until then is there.
pub record IsHalted {P V : Type 0} (s : Setting V) (events : List Event) (limit : Limit) (y : Systemed P V)
    : Type 0 where
  pub before : List Event
  pub event : Event
  pub after : List Event
  pub events_are : events ≡ before ++ event ∷ after
  pub replies : List Reply
  pub there : SystemWorld V
  pub answers : Answers s before replies there
  pub world : SystemWorld V
  pub stops : Stops s there event limit world
  pub released : HasReleased world y
  pub handed : y.handed ≡ 0

-- the system is new
pub record IsNew {P V : Type 0} (m : Meaning V) (s : Setting V) (y : Systemed P V) : Type 0 where
  pub stands : SystemStands m s (opening V) y
  pub handed : y.handed ≡ 0
