use Rattle.std.proofs.Common.{◌≡◌}
use Rattle.system_images.proofs.ReadyLemmas.{LeftTo}
use Rattle.system_images.proofs.ready.left.Given as goal

-- what is left of the threads before this one is counted
abbrev pub invariant-loop-thread : goal.invariant-loop-thread
invariant-loop-thread g l = record {
  sum : LeftTo (g.P.Program.meaning l.core.program) l.core l.thread l.left;
  end : l.thread-end ≡ l.core.inputs.threads;
}
