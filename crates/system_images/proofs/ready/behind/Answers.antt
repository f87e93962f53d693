use Rattle.std.proofs.Common.{◌≤◌, length, ap, sym, ◌∙◌, subst, arith}
use Rattle.system_images.proofs.ReadyLemmas.{all_behind}
use Rattle.system_images.proofs.ready.behind.Goals as goal

pub returns : goal.returns
returns g c =
    let high = c.loop-thread-test.false in
    let long = ap (λ l. length l) (c.as_slice-thread-items.ensures ∙ ap (λ y. y.released) c.core.view_is) in
    all_behind (g.P.Program.meaning c.args.core.now.program) c.args.core.now c.loop-thread.thread-index
    c.loop-thread.behind (omega (arith, high, long)) c.loop-thread.invariant.counted
