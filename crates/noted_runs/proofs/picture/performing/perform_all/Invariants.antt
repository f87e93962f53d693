use Rattle.std.proofs.Common.{◌≡◌, [], ℕ, take, false}
use Rattle.recovery_world.specs.World.{Setting}
use Rattle.noted_runs.specs.Noting.{AreInputs, HasNoted}
use Rattle.noted_runs.proofs.picture.performing.perform_all.Given as goal

-- the events so far were performed and noted
abbrev pub invariant-loop-event : goal.invariant-loop-event
invariant-loop-event g l =
    let m = g.P.Program.meaning l.fn.system.parts.program in
    record {
      runs : l.system.stopped ≡ false;
      program : l.system.parts.program ≡ l.fn.system.parts.program;
      on : (s : Setting g.row.P-Value.Denot) → AreInputs (g.P.Program.meaning l.program) l.inputs s
          → HasNoted m s [] [] l.fn.system → HasNoted m s (take l.event-index l.events) l.notes l.system;
    }
