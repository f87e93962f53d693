-- What the command `resume` writes: what `run` writes, of the events from the world of an image on.
use Rattle.std.specs.Prelude.{◌≡◌, All, List, [], ◌∷◌, ◌++◌}
use Rattle.plain_text.specs.declared.limit.Limit.{Limit}
use Rattle.plain_machine.specs.History.{Step}
use Rattle.plain_player.specs.ScheduleText.{schedule_text}
use Rattle.plain_player.specs.Schedules.{FitLines}
use Rattle.world_io.specs.World.{Shown}
use Rattle.recovery_world.specs.declared.event.Event.{Event}
use Rattle.recovery_world.specs.World.{Setting, World as SystemWorld}
use Rattle.recovery_world.specs.Many.{Stops}
use Rattle.recovery_world.specs.Finish.{IsFinish}
use Rattle.recovery_world.specs.Files.{done_line, moves_made}
use Rattle.run_writes.specs.Replies.{Reply, AnswersFrom, newly_released, released_in, lines_in}
use Rattle.run_writes.specs.Run.{OutputNames, FitsRecord, HasFiles}

-- The outputs are what the events leave from this world on: the packets that they released, the schedule of the run in
-- which their world ends, and the report. What was released fits records, and the moves fit lines.
pub record HasResumed {V : Type 0} (s : Setting V) (from : SystemWorld V) (names : OutputNames) (events : List Event)
    (old new : Shown) : Type 0 where
  pub replies : List Reply
  pub world : SystemWorld V
  pub answers : AnswersFrom s from events replies world
  pub steps : List (Step V)
  pub finish : IsFinish s world steps
  pub fit_records : All FitsRecord (released_in replies)
  pub fit_lines : FitLines (moves_made steps)
  pub files : HasFiles names s.fractions (released_in replies) (schedule_text (moves_made steps))
      (lines_in replies ++ done_line world) old new

-- An event stopped at this limit: the report has the lines of those before it, the released capture has all that these
-- events released until then, and the schedule is empty.
pub record HasHalted {V : Type 0} (s : Setting V) (from : SystemWorld V) (names : OutputNames) (events : List Event)
    (limit : Limit) (old new : Shown) : Type 0 where
  pub before : List Event
  pub event : Event
  pub after : List Event
  pub events_are : events ≡ before ++ event ∷ after
  pub replies : List Reply
  pub there : SystemWorld V
  pub answers : AnswersFrom s from before replies there
  pub world : SystemWorld V
  pub stops : Stops s there event limit world
  pub files : HasFiles names s.fractions (released_in replies ++ newly_released there world) [] (lines_in replies)
      old new
