use Rattle.std.proofs.Common.{◌≤◌}
use Rattle.system_images.proofs.ReadyLemmas.{BehindTo}
use Rattle.system_images.proofs.ready.behind.Given as goal

-- those counted so far and those among the rest are all
abbrev pub invariant-loop-thread : goal.invariant-loop-thread
invariant-loop-thread g l = record {
  few : l.behind ≤ l.thread-index;
  counted : BehindTo (g.P.Program.meaning l.core.program) l.core l.thread-index l.behind;
}
