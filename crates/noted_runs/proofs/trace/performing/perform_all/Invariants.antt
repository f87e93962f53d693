use Rattle.std.proofs.Common.{◌≡◌, [], ℕ, take, false}
use Rattle.recovery_world.specs.World.{Setting}
use Rattle.noted_runs.specs.TraceGoing.{HasGone, IsSomewhere}
use Rattle.noted_runs.proofs.trace.performing.perform_all.Given as goal

-- the events so far were performed
abbrev pub invariant-loop-index : goal.invariant-loop-index
invariant-loop-index g l =
    let m = g.P.Program.meaning l.fn.system.parts.program in
    record {
      runs : l.system.stopped ≡ false;
      program : l.system.parts.program ≡ l.fn.system.parts.program;
      somewhere : (threads : ℕ) → IsSomewhere threads m l.fn.system → IsSomewhere threads m l.system;
      on : (s : Setting g.row.P-Value.Denot) → HasGone m s [] [] l.fn.system
          → HasGone m s (take l.index l.events) l.departures l.system;
    }
