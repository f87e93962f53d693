use Rattle.std.proofs.Common.{◌≤◌, ap, sym, ◌∙◌, subst, arith}
use Rattle.system_images.proofs.ReadyLemmas.{all_left, left_more}
use Rattle.system_images.proofs.ready.left.Goals as goal

pub loop-thread-preserved : goal.loop-thread-preserved
loop-thread-preserved g c = record {
  sum = left_more (g.P.Program.meaning c.args.core.now.program) c.args.core.now c.loop-thread.thread c.loop-thread.left
      c.left_of.result _ c.loop-thread.invariant.sum c.left_of.ensures c.saturating_add-left.ensures;
  end = c.loop-thread.invariant.end;
}

pub returns : goal.returns
returns g c =
    let high = c.loop-thread-test.false in
    let few = c.loop-thread.auto.thread-end in
    let end = c.loop-thread.invariant.end in
    all_left g.P.Program.meaning g.P.Program.fits _ c.args.core.now c.core.view_is
    (g.met.P.Program.lawful c.core.inside.program) c.core.invariant.few_packets c.loop-thread.thread
    c.loop-thread.left
    (subst (λ y. y.inputs.threads ≤ 16) c.core.view_is c.core.invariant.few_threads)
    (omega (arith, high, few, end)) c.loop-thread.invariant.sum
