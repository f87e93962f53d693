use Rattle.std.proofs.Common.{◌≤◌, refl, sym, subst, arith}
use Rattle.std.specs.Prelude.{IfOk}
use Rattle.recovery_world.specs.declared.event.Outcome.TheVariants as outcome
use Rattle.message_arrivals.specs.Arriving.{arrival_of}
use Rattle.output_releases.specs.FromSystemParts.{MovesOn, Releasing, Replies}
use Rattle.output_releases.proofs.Answering.{came, stays}
use Rattle.message_arrivals.proofs.Arrivals.{arrives_nowhere}
use Rattle.message_arrivals.proofs.Forgetting.{forgets_none}
use Rattle.message_arrivals.proofs.arriving.arrive.Goals as goal

pub returns-then-thread-from-clause-on : goal.returns-then-thread-from-clause-on
returns-then-thread-from-clause-on g c =
    came _ _ _ _ _ (arrival_of c.args.kind c.args.thread c.args.number) c.only.result c.args.out.now c.args.out.now
    c.core.view_is c.core.view_is refl
    (λ s w st.
    let high : c.core.inside.inputs.threads ≤ c.args.thread =
    omega (arith, c.if-thread-from.true, c.from.ensures, c.threads.ensures.value) in
    stays _ s w _ st (arrival_of c.args.kind c.args.thread c.args.number) outcome.Nothing c.only.result c.args.out.now
    c.only.ensures (arrives_nowhere _ s w _ st c.args.kind c.args.thread c.args.number high))

pub returns-in-Log-clause-on : goal.returns-in-Log-clause-on
returns-in-Log-clause-on g c =
    subst (λ k. IfOk c.take_entry.result (λ reply. MovesOn (g.P.Program.meaning c.args.core.now.program)
    (Releasing c.args.out.now c.take_entry.new.out (Replies (arrival_of k c.args.thread c.args.number) reply))
    c.args.core.now c.take_entry.new.core)) (sym c.in-Log.is) c.take_entry.ensures.on

pub returns-in-Out-clause-on : goal.returns-in-Out-clause-on
returns-in-Out-clause-on g c =
    subst (λ k. IfOk c.take_output.result (λ reply. MovesOn (g.P.Program.meaning c.args.core.now.program)
    (Releasing c.args.out.now c.take_output.new.out (Replies (arrival_of k c.args.thread c.args.number) reply))
    c.args.core.now c.take_output.new.core)) (sym c.in-Out.is) c.take_output.ensures.on

pub returns-then-thread-from-clause-forgets : goal.returns-then-thread-from-clause-forgets
returns-then-thread-from-clause-forgets g c =
    forgets_none c.args.thread outcome.Nothing c.only.result _ c.only.ensures (λ h. cc) (λ h. cc)
