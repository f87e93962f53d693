use Rattle.recovery_world.specs.World.{Setting, World}
use Rattle.system_parts.specs.SystemStanding.{StandsFor}
use Rattle.noted_runs.specs.TraceGoing.{HasLacks}
use Rattle.noted_runs.proofs.trace.running.all_lacks.Given as goal

-- what the outputs of the threads so far lack
abbrev pub invariant-loop-thread : goal.invariant-loop-thread
invariant-loop-thread g l =
    (s : Setting g.row.P-Value.Denot) (w : World g.row.P-Value.Denot)
    → StandsFor (g.P.Program.meaning l.system.parts.program) s w l.system.parts → HasLacks l.thread w l.lists.items
