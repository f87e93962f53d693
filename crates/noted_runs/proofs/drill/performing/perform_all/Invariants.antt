use Rattle.std.proofs.Common.{◌≡◌, [], take, false}
use Rattle.recovery_world.specs.World.{Setting}
use Rattle.noted_runs.specs.Drilling.{HasPerformed}
use Rattle.noted_runs.proofs.drill.performing.perform_all.Given as goal

-- the events so far were performed
abbrev pub invariant-loop-event : goal.invariant-loop-event
invariant-loop-event g l =
    let m = g.P.Program.meaning l.fn.system.parts.program in
    record {
      runs : l.system.stopped ≡ false;
      program : l.system.parts.program ≡ l.fn.system.parts.program;
      on : (s : Setting g.row.P-Value.Denot) → HasPerformed m s [] 0 l.fn.system
          → HasPerformed m s (take l.event-index l.events) l.replayed l.system;
    }
