use Rattle.master_core.proofs.ApplyLoop.{HasApplied}
use Rattle.master_core.proofs.master.copies.apply_vars.Given as goal

abbrev pub invariant-loop-var : goal.invariant-loop-var
invariant-loop-var g l = HasApplied l.fn.parts.items l.parts.items l.fn.changes.items l.changes.items l.var
