use Rattle.std.proofs.Common.{◌≡◌, [], take, false}
use Rattle.world_io.specs.World.{Start, Shown}
use Rattle.recovery_world.specs.World.{Setting}
use Rattle.output_files.specs.Writes.{IsOutput, KeepsOutputs}
use Rattle.output_files.specs.Written.{OnlyWrites}
use Rattle.run_writes.specs.Replies.{Point}
use Rattle.run_writes.specs.Run.{OutputNames}
use Rattle.run_command.specs.Running.{HasCome, IsSomewhere}
use Rattle.run_command.proofs.running.perform_events.Given as goal

-- the events so far were performed, and what they leave was written or is gathered
abbrev pub invariant-loop-event : goal.invariant-loop-event
invariant-loop-event g l =
    let m = g.P.Program.meaning l.fn.system.parts.program in
    record {
      runs : l.system.stopped ≡ false;
      program : l.system.parts.program ≡ l.fn.system.parts.program;
      somewhere : IsSomewhere m l.system;
      only_writes : OnlyWrites g.W.World.ledger g.W.World.healthy l.fn.world l.world;
      shows : (p : Start) → g.W.World.honest p l.world → (s : Setting g.row.P-Value.Denot)
          (from : Point g.row.P-Value.Denot) (names : OutputNames) (before : Shown)
          → IsOutput l.file names.released (g.W.World.shows p l.fn.world)
          → HasCome m s from names [] l.fn.system l.fn.lines before (g.W.World.shows p l.fn.world)
          → HasCome m s from names (take l.event-index l.events) l.system l.lines before (g.W.World.shows p l.world);
      keeps : (p : Start) → g.W.World.honest p l.world
          → KeepsOutputs (g.W.World.shows p l.fn.world) (g.W.World.shows p l.world);
      before : (p : Start) → g.W.World.honest p l.world → g.W.World.honest p l.fn.world;
    }
