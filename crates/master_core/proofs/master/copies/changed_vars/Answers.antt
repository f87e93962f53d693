use Rattle.std.proofs.Common.{arith, add-one, ◌<◌, length}
use Rattle.master_core.proofs.DeltaLemmas.{changed-more}
use Rattle.master_core.proofs.master.copies.changed_vars.Goals as goal

pub loop-var-preserved : goal.loop-var-preserved
loop-var-preserved g c =
    let low : c.loop-var.var < length c.args.now.now =
    omega (arith, c.requires.program.count, c.vars-var-end.ensures) in
    let high : c.loop-var.var < length c.args.base.now = omega (arith, c.requires.base) in
    let more = changed-more c.args.base.now c.args.now.now c.loop-var.var c.index-base-at.result c.index-now-at.result
    high low c.index-base-at.is c.index-now-at.is in
    let made = c.in_ok-changed_var.ensures in
    let pushed = c.in_ok-push.ensures.items in
    rw add-one (cc (more, made, pushed, c.loop-var.invariant))
