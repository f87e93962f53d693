use Rattle.std.proofs.Common.{◌≡◌, [], take, false}
use Rattle.world_io.specs.World.{Start, Shown}
use Rattle.recovery_world.specs.World.{Setting}
use Rattle.output_files.specs.Writes.{KeepsOutputs}
use Rattle.output_files.specs.Written.{OnlyWrites}
use Rattle.chain_command.specs.Outputs.{ChainNames}
use Rattle.chain_command.specs.Running.{AreOpen, HasCome, IsSomewhere}
use Rattle.chain_command.proofs.running.perform_events.Given as goal

-- the events so far were performed, and what they leave was written or is gathered
abbrev pub invariant-loop-event : goal.invariant-loop-event
invariant-loop-event g l =
    let mean = g.P.Program.meaning in
    let other = g.Q.Program.meaning in
    record {
      runs : l.chain.stopped ≡ false;
      somewhere : IsSomewhere mean other l.chain;
      only_writes : OnlyWrites g.W.World.ledger g.W.World.healthy l.fn.world l.world;
      shows : (p : Start) → g.W.World.honest p l.world → (s : Setting g.row.P-Value.Denot)
          (r : Setting g.row.Q-Value.Denot) (names : ChainNames) (before : Shown)
          → AreOpen names l.files (g.W.World.shows p l.fn.world)
          → HasCome mean other s r names [] l.fn.chain l.fn.lines before (g.W.World.shows p l.fn.world)
          → HasCome mean other s r names (take l.event-index l.events) l.chain l.lines before
          (g.W.World.shows p l.world);
      keeps : (p : Start) → g.W.World.honest p l.world
          → KeepsOutputs (g.W.World.shows p l.fn.world) (g.W.World.shows p l.world);
      before : (p : Start) → g.W.World.honest p l.world → g.W.World.honest p l.fn.world;
    }
