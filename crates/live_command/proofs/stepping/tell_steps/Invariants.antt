use Rattle.std.proofs.Common.{◌≤◌, ◌++◌, List, take, drop}
use Rattle.plain_text.specs.declared.limit.TheConstants.{MOST_EVENTS, MOST_FILE_BYTES}
use Rattle.world_io.specs.World.{Start, Shown}
use Rattle.recovery_world.specs.declared.event.Event.{Event}
use Rattle.recovery_world.specs.World.{Setting, World as SystemWorld}
use Rattle.output_files.specs.Writes.{IsOutput, KeepsOutputs}
use Rattle.output_files.specs.Written.{OnlyWrites}
use Rattle.live_workers.specs.FromRoundJoin.{PerformsNoted, events_noted}
use Rattle.live_writes.specs.Outputs.{AreApart, LiveOutputs}
use Rattle.live_writes.specs.Told.{HasTold}
use Rattle.live_command.proofs.StepsTold.{PerformsFrom}
use Rattle.live_command.proofs.stepping.tell_steps.Given as goal

-- the steps so far were told, and the others lead from there to the end
abbrev pub invariant-loop-step : goal.invariant-loop-step
invariant-loop-step g l = record {
  few : l.script.count ≤ MOST_EVENTS;
  short : l.script.size ≤ MOST_FILE_BYTES;
  only_writes : OnlyWrites g.W.World.ledger g.W.World.healthy l.fn.world l.world;
  before : (p : Start) → g.W.World.honest p l.world → g.W.World.honest p l.fn.world;
  keeps : (p : Start) → g.W.World.honest p l.world
      → KeepsOutputs (g.W.World.shows p l.fn.world) (g.W.World.shows p l.world);
  told : (p : Start) → g.W.World.honest p l.world
      → (s : Setting g.row.X.Denot) (names : LiveOutputs) (events : List Event)
      (w there : SystemWorld g.row.X.Denot) (before : Shown) → AreApart names
      → IsOutput l.file names.script (g.W.World.shows p l.fn.world)
      → HasTold s names events events w l.fn.lines l.fn.script before (g.W.World.shows p l.fn.world)
      → PerformsNoted s w l.steps there
      → (mid : SystemWorld g.row.X.Denot)
      × HasTold s names (events ++ events_noted (take l.step-index l.steps))
      (events ++ events_noted (take l.step-index l.steps)) mid l.lines l.script before (g.W.World.shows p l.world)
      × PerformsFrom s mid (drop l.step-index l.steps) there;
}
