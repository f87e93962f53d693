use Rattle.std.proofs.Common.{arith}
use Rattle.master_core.proofs.ApplyLoop.{applied_none, applied_one, applied_all}
use Rattle.master_core.proofs.master.copies.apply_vars.Goals as goal

pub loop-var-init : goal.loop-var-init
loop-var-init g c = applied_none _ _

pub loop-var-preserved : goal.loop-var-preserved
loop-var-preserved g c =
    applied_one _ _ _ _ c.loop-var.var c.index_mut.result.now c.apply_var.new.part c.index_mut-in-loop-var.result.now
    c.apply_var.new.change c.loop-var.invariant c.requires (omega arith) c.index_mut.ensures.value
    c.index_mut-in-loop-var.ensures.value c.apply_var.ensures

pub returns : goal.returns
returns g c = applied_all _ _ _ c.loop-var.changes.items c.loop-var.var c.loop-var.invariant c.requires (omega arith)
