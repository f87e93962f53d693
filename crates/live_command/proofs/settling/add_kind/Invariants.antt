use Rattle.std.proofs.Common.{◌≡◌, ◌++◌}
use Rattle.recovery_world.specs.Events.{count_of, ended_now}
use Rattle.recovery_world.specs.Many.{of_threads}
use Rattle.recovery_world.specs.World.{Setting, World}
use Rattle.system_parts.specs.SystemStanding.{StandsFor}
use Rattle.live_command.proofs.settling.add_kind.Given as goal

-- those of the threads before this one are there
abbrev pub invariant-loop-thread : goal.invariant-loop-thread
invariant-loop-thread g l =
    (s : Setting g.row.P-Value.Denot) (w : World g.row.P-Value.Denot)
    → StandsFor (g.P.Program.meaning l.system.parts.program) s w l.system.parts
    → l.frames.items ≡ l.initial.frames.items ++ of_threads l.kind (count_of l.kind (ended_now w)) 0 l.thread
