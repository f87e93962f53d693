use Rattle.std.proofs.Common.{◌∙◌, ap, arith, length}
use Rattle.several_events.proofs.RepeatedArrivals.{goes_on_repeats, repeats_fall}
use Rattle.several_events.proofs.repeats.pass_repeats.Goals as goal

pub returns-then-arrived-known-clause-passes : goal.returns-then-arrived-known-clause-passes
returns-then-arrived-known-clause-passes g c =
    let value = c.threads.ensures.value ∙ ap (λ y. y.inputs.threads) c.core.view_is in
    let test = c.if-thread-threads.true in
    goes_on_repeats (g.P.Program.meaning c.args.core.now.program) c.args.core.now c.args.kind c.args.thread
    c.args.arrived c.repeats_to-known.result (omega (arith, value, test)) (omega arith)
    c.repeats_to-known.ensures.come c.repeats_to-known.ensures.made

pub returns-then-arrived-known-clause-less : goal.returns-then-arrived-known-clause-less
returns-then-arrived-known-clause-less g c =
    repeats_fall c.args.core.now.inputs.threads (length c.args.core.now.left) c.args.core.now.moves c.args.kind
    c.args.thread c.args.arrived c.repeats_to-known.result (omega arith)
