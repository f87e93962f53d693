use Rattle.std.proofs.Common.{◌≤◌, refl, subst, arith}
use Rattle.thread_steps.proofs.StepLemmas.{past_threads}
use Rattle.thread_steps.proofs.stepping.step.Goals as goal

pub returns-then-thread-from-clause-on : goal.returns-then-thread-from-clause-on
returns-then-thread-from-clause-on g c =
    let inside : c.core.inside.inputs.threads ≤ c.args.thread =
    omega (arith, c.threads.ensures.value, c.from.ensures, c.if-thread-from.true) in
    let high = subst (λ q. q.inputs.threads ≤ c.args.thread) c.core.view_is inside in (
      refl,
      λ s w st. past_threads (g.P.Program.meaning c.args.core.now.program) s w _ c.args.thread c.args.given st high,
    )

pub returns-clause-on : goal.returns-clause-on
returns-clause-on g c = c.make_move-answer.ensures.made.goes c.note.result c.note.new.core c.note.ensures

pub returns-clause-limit : goal.returns-clause-limit
returns-clause-limit g c = λ limit is.
    c.make_move-answer.ensures.made.stops c.note.result c.note.new.core c.note.ensures limit is
