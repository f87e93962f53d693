use Rattle.std.proofs.Common.{◌≤◌, subst}
use Rattle.std.proofs.lemmas.Result.{IfOk-weaker}
use Rattle.system_end.proofs.EndingLemmas.{ends_each, ends_some}
use Rattle.system_end.proofs.ending.end_awake.Goals as goal

pub finish_run-ended-requires-clause-end : goal.finish_run-ended-requires-clause-end
finish_run-ended-requires-clause-end g c κs within =
    ends_some g.P.Program.meaning c.args.core _ _ _ _ c.taken_apart-program.ensures.program
    c.taken_apart-program.ensures.inputs c.taken_apart-program.ensures.master c.taken_apart-program.ensures.schedule
    c.requires.up (subst (λ q. q.inputs.threads ≤ 16) c.core.view_is c.core.invariant.few_threads) c.in-Ok.order.items _
    c.in-Ok.numbers.items _ c.in-Ok.ensures.order c.as_slice.ensures.value c.in-Ok.ensures.numbers
    c.as_slice-in-Ok.ensures.value c.requires.stands

pub returns-in-Ok : goal.returns-in-Ok
returns-in-Ok g c =
    IfOk-weaker c.finish_run-ended.result _ _
    (λ moves ends s w st.
    ends s w (ends_each g.P.Program.meaning c.args.core _ _ _ _ c.taken_apart-program.ensures.program
    c.taken_apart-program.ensures.inputs c.taken_apart-program.ensures.master c.taken_apart-program.ensures.schedule
    c.requires.up (subst (λ q. q.inputs.threads ≤ 16) c.core.view_is c.core.invariant.few_threads) c.in-Ok.order.items _
    c.in-Ok.numbers.items _ c.in-Ok.ensures.order c.as_slice.ensures.value c.in-Ok.ensures.numbers
    c.as_slice-in-Ok.ensures.value s w st)) c.finish_run-ended.ensures
