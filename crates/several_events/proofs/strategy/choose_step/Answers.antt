use Rattle.std.proofs.Common.{◌≤◌, ap, arith}
use Rattle.std.proofs.lemmas.Option.{IfSome_then}
use Rattle.several_events.proofs.Choices.{next_step, next_feed, next_at_rest, over_at_rest}
use Rattle.several_events.proofs.strategy.choose_step.Goals as goal

pub returns-then-thread-threads-clause-next : goal.returns-then-thread-threads-clause-next
returns-then-thread-threads-clause-next g c =
    let now = ap (λ y. y.inputs.threads) c.core.view_is in
    let value = c.threads.ensures.value in
    let few = c.threads.ensures.few in
    let test = c.if-thread-threads.true in
    next_step (g.P.Program.meaning c.args.core.now.program) c.args.core.now c.args.left c.args.thread c.from.result
    c.args.moved c.from.ensures (omega (arith, now, value, test)) (omega (arith, now, value, few))

pub returns-then-left-eq0-clause-over : goal.returns-then-left-eq0-clause-over
returns-then-left-eq0-clause-over g c = λ is.
    let now = ap (λ y. y.inputs.threads) c.core.view_is in
    let value = c.threads.ensures.value in
    let test = c.if-thread-threads.false in
    over_at_rest (g.P.Program.meaning c.args.core.now.program) c.args.core.now c.args.left c.args.thread c.args.moved
    (omega (arith, now, value, test)) c.if-left-eq0.true (c.choose_arrival.ensures.over is)

pub returns-then-left-eq0-clause-next : goal.returns-then-left-eq0-clause-next
returns-then-left-eq0-clause-next g c =
    let now = ap (λ y. y.inputs.threads) c.core.view_is in
    let value = c.threads.ensures.value in
    let test = c.if-thread-threads.false in
    let over : c.args.core.now.inputs.threads ≤ c.args.thread = omega (arith, now, value, test) in
    IfSome_then c.choose_arrival.result c.choose_arrival.ensures.next
    (λ next is. next_at_rest (g.P.Program.meaning c.args.core.now.program) c.args.core.now c.args.left c.args.thread
    c.args.moved next.0 next.1 over c.if-left-eq0.true is)

pub returns-clause-next : goal.returns-clause-next
returns-clause-next g c =
    let now = ap (λ y. y.inputs.threads) c.core.view_is in
    let value = c.threads.ensures.value in
    let some = c.threads.ensures.some in
    let few = c.threads.ensures.few in
    let test = c.if-thread-threads.false in
    next_feed (g.P.Program.meaning c.args.core.now.program) c.args.core.now c.args.left c.args.thread c.args.moved
    (omega (arith, now, value, test)) (omega (arith, now, value, some)) (omega (arith, now, value, few)) (omega arith)
