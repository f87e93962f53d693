use Rattle.std.proofs.Common.{◌∙◌, ap, length, sym, subst, false, arith}
use Rattle.recovery_world.specs.declared.event.Event.TheVariants as event
use Rattle.several_events.specs.declared.progress.Progress.TheVariants as progress
use Rattle.several_events.specs.Progressing.{IsNext}
use Rattle.several_events.proofs.Choices.{next_wake}
use Rattle.several_events.proofs.strategy.choose.Goals as goal

pub returns-in-Wakes-clause-next : goal.returns-in-Wakes-clause-next
returns-in-Wakes-clause-next g c =
    let now = ap (λ y. y.inputs.threads) c.core.view_is in
    let some = c.core.invariant.some_threads in
    let few = c.core.invariant.few_threads in
    let m = g.P.Program.meaning c.args.core.now.program in
    subst (λ at. IsNext m c.args.core.now at event.Recover (progress.Steps c.len.result 0 false)) (sym c.in-Wakes.is)
    (next_wake m c.args.core.now c.len.result
    (c.len.ensures ∙ c.core.inside.left.ok.0 ∙ ap (λ y. length y.left) c.core.view_is)
    (omega (arith, now, some)) (omega (arith, now, few)))
