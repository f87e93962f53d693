use Rattle.std.proofs.Common.{◌≡◌, ◌≤◌, take, false, length, []}
use Rattle.plain_text.specs.declared.limit.TheConstants.{MOST_EVENTS as most_events}
use Rattle.plain_text.specs.declared.limit.TheConstants.{MOST_FILE_BYTES as most_bytes}
use Rattle.world_io.specs.World.{Start, Shown}
use Rattle.recovery_world.specs.World.{Setting, opening}
use Rattle.output_files.specs.Writes.{KeepsOutputs}
use Rattle.output_files.specs.Written.{OnlyWrites}
use Rattle.frame_intake.specs.Orders.{orders_of}
use Rattle.live_workers.specs.Draws.{generators_of}
use Rattle.run_command.specs.Running.{IsSomewhere}
use Rattle.live_writes.specs.Outputs.{AreApart, LiveOutputs}
use Rattle.live_writes.specs.Told.{AreOpen}
use Rattle.live_command.specs.Going.{HasLivedTo}
use Rattle.live_command.proofs.LinesGone.{SoFar}
use Rattle.live_command.proofs.lines.perform_plan.Given as goal

-- the first lines were performed, and what they leave was written or is gathered
abbrev pub invariant-loop-line : goal.invariant-loop-line
invariant-loop-line g l =
    let m = g.P.Program.meaning l.fn.standing.system.parts.program in
    let shows = g.W.World.shows in
    let honest = g.W.World.honest in
    record {
      runs : l.reached.system.stopped ≡ false;
      program : l.reached.system.parts.program ≡ l.fn.standing.system.parts.program;
      threads : l.reached.system.parts.inputs.threads ≡ l.fn.standing.system.parts.inputs.threads;
      draws : length l.reached.draws ≡ l.reached.system.parts.inputs.threads;
      somewhere : IsSomewhere m l.reached.system;
      few : l.script.count ≤ most_events;
      short : l.script.size ≤ most_bytes;
      only_writes : OnlyWrites g.W.World.ledger g.W.World.healthy l.fn.world l.world;
      before : (p : Start) → honest p l.world → honest p l.fn.world;
      keeps : (p : Start) → honest p l.world → KeepsOutputs (shows p l.fn.world) (shows p l.world);
      told : (p : Start) → honest p l.world
          → (s : Setting g.row.P-Value.Denot) (names : LiveOutputs) (before : Shown)
          → l.fn.standing.draws ≡ generators_of s.seed 0 s.threads → AreApart names
          → AreOpen names l.files.released l.files.schedule l.files.script (shows p l.fn.world)
          → HasLivedTo m s names [] (opening g.row.P-Value.Denot) l.fn.standing.system l.fn.lines l.fn.script before
          (shows p l.fn.world)
          → SoFar m s names (g.C.Clock.may l.clock) (take l.line-index l.plan) (orders_of l.orders) l.reached l.lines
          l.script before (shows p l.world);
    }
