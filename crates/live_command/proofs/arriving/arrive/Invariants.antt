use Rattle.std.proofs.Common.{◌≡◌, ◌≤◌, take, false, List, Ok}
use Rattle.std.specs.Prelude.{⊤}
use Rattle.plain_text.specs.declared.limit.TheConstants.{MOST_EVENTS as most_events}
use Rattle.plain_text.specs.declared.limit.TheConstants.{MOST_FILE_BYTES as most_bytes}
use Rattle.world_io.specs.World.{Start, Shown}
use Rattle.recovery_world.specs.declared.event.Event.{Event}
use Rattle.recovery_world.specs.World.{Setting, World as SystemWorld}
use Rattle.output_files.specs.Writes.{KeepsOutputs}
use Rattle.output_files.specs.Written.{OnlyWrites}
use Rattle.plan_script.specs.Rounds.{arrival_events}
use Rattle.run_command.specs.Running.{IsSomewhere}
use Rattle.live_writes.specs.Outputs.{AreApart, LiveOutputs}
use Rattle.live_writes.specs.Told.{AreOpen}
use Rattle.live_command.specs.Going.{GoesOver, HasLivedTo}
use Rattle.live_command.proofs.arriving.arrive.Given as goal

-- the first frames arrived, and what they leave was written or is gathered
abbrev pub invariant-loop-frame : goal.invariant-loop-frame
invariant-loop-frame g l =
    let m = g.P.Program.meaning l.fn.system.parts.program in
    let shows = g.W.World.shows in
    let honest = g.W.World.honest in
    record {
      runs : l.system.stopped ≡ false;
      program : l.system.parts.program ≡ l.fn.system.parts.program;
      threads : l.system.parts.inputs.threads ≡ l.fn.system.parts.inputs.threads;
      somewhere : IsSomewhere m l.system;
      few : l.script.count ≤ most_events;
      short : l.script.size ≤ most_bytes;
      only_writes : OnlyWrites g.W.World.ledger g.W.World.healthy l.fn.world l.world;
      before : (p : Start) → honest p l.world → honest p l.fn.world;
      keeps : (p : Start) → honest p l.world → KeepsOutputs (shows p l.fn.world) (shows p l.world);
      told : (p : Start) → honest p l.world
          → (s : Setting g.row.P-Value.Denot) (names : LiveOutputs) (events : List Event)
          (w : SystemWorld g.row.P-Value.Denot) (before : Shown) → AreApart names
          → AreOpen names l.files.released l.files.schedule l.files.script (shows p l.fn.world)
          → HasLivedTo m s names events w l.fn.system l.fn.lines l.fn.script before (shows p l.fn.world)
          → GoesOver {A = ⊤} (Ok tt) m s names w events (arrival_events (take l.frame-index l.frames)) l.system
          l.lines l.script before (shows p l.world);
    }
