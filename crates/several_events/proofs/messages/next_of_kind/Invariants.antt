use Rattle.std.proofs.Common.{◌≡◌}
use Rattle.recovery_world.specs.World.{Setting, World}
use Rattle.system_parts.specs.SystemStanding.{StandsFor}
use Rattle.several_events.proofs.MessageLists.{GoesOnTo}
use Rattle.several_events.proofs.messages.next_of_kind.Given as goal

-- of the threads before this one none comes
abbrev pub invariant-threads : goal.invariant-threads
invariant-threads g l = record {
  end : l.turn-end ≡ l.core.inputs.threads;
  goes : (s : Setting g.row.P-Value.Denot) (w : World g.row.P-Value.Denot)
      → StandsFor (g.P.Program.meaning l.core.program) s w l.core
      → GoesOnTo s w l.kind l.thread l.arrived l.turn l.before;
}
