use Rattle.std.proofs.Common.{◌≡◌}
use Rattle.several_events.specs.Choosing.{Counted}
use Rattle.several_events.proofs.choosing.counts_of_all.Given as goal

-- the counts of the threads before this one are there
abbrev pub invariant-threads : goal.invariant-threads
invariant-threads g l = record {
  end : l.thread-end ≡ l.core.inputs.threads;
  counted : Counted (g.P.Program.meaning l.core.program) l.core l.thread l.entries l.outputs;
}
