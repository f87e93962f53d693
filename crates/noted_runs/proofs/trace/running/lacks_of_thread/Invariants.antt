use Rattle.std.proofs.Common.{◌≡◌, length}
use Rattle.recovery_world.specs.World.{Setting, World}
use Rattle.system_parts.specs.SystemStanding.{StandsFor}
use Rattle.noted_runs.proofs.SeenLemmas.{AreLacks}
use Rattle.noted_runs.proofs.trace.running.lacks_of_thread.Given as goal

-- what the outputs so far lack
abbrev pub invariant-loop-number : goal.invariant-loop-number
invariant-loop-number g l = record {
  long : length l.list ≡ l.number;
  lacks : (s : Setting g.row.P-Value.Denot) (w : World g.row.P-Value.Denot)
      → StandsFor (g.P.Program.meaning l.system.parts.program) s w l.system.parts → AreLacks w l.thread l.list;
}
