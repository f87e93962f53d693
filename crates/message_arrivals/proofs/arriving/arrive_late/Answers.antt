use Rattle.std.proofs.Common.{refl, sym, ◌∙◌, subst}
use Rattle.std.proofs.lemmas.Result.{IfOk-weaker}
use Rattle.recovery_world.specs.declared.event.Event.TheVariants as event_is
use Rattle.recovery_world.specs.declared.event.Outcome.TheVariants as outcome
use Rattle.message_arrivals.specs.Arriving.{HadSent, arrival_of}
use Rattle.output_releases.proofs.Answering.{came, stays}
use Rattle.message_arrivals.proofs.Arrivals.{moves_as, late_now, late_old, late_never}
use Rattle.message_arrivals.proofs.Forgetting.{forgets_none}
use Rattle.message_arrivals.proofs.arriving.arrive_late.Goals as goal

pub returns-then-epoch-from-clause-on : goal.returns-then-epoch-from-clause-on
returns-then-epoch-from-clause-on g c =
    IfOk-weaker c.arrive.result _ _
    (λ reply moves.
    moves_as _ (arrival_of c.args.kind c.args.thread c.args.number)
    (event_is.Late c.args.epoch c.args.kind c.args.thread c.args.number) reply c.args.out.now c.arrive.new.out _ _ _
    c.core.view_is
    (λ s w st.
    late_now _ s w _ st c.args.epoch c.args.kind c.args.thread c.args.number
    (c.if-epoch-from.true ∙ c.from.ensures ∙ c.epoch.ensures)) moves) c.arrive.ensures.on

pub returns-then-was_sent-clause-on : goal.returns-then-was_sent-clause-on
returns-then-was_sent-clause-on g c =
    came _ _ _ _ _ (event_is.Late c.args.epoch c.args.kind c.args.thread c.args.number) c.only.result c.args.out.now
    c.args.out.now c.core.view_is c.core.view_is refl
    (λ s w st.
    stays _ s w _ st (event_is.Late c.args.epoch c.args.kind c.args.thread c.args.number) outcome.Old c.only.result
    c.args.out.now c.only.ensures
    (late_old _ s w _ st c.args.epoch c.args.kind c.args.thread c.args.number
    (λ is. c.if-epoch-from.false (is ∙ sym c.epoch.ensures ∙ sym c.from.ensures))
    (subst (λ e. HadSent e c.args.epoch c.args.kind c.args.thread c.args.number) c.deref.ensures.value
    (c.was_sent.ensures.0 c.if-was_sent.true))))

pub returns-clause-on : goal.returns-clause-on
returns-clause-on g c =
    came _ _ _ _ _ (event_is.Late c.args.epoch c.args.kind c.args.thread c.args.number) c.only-2.result c.args.out.now
    c.args.out.now c.core.view_is c.core.view_is refl
    (λ s w st.
    stays _ s w _ st (event_is.Late c.args.epoch c.args.kind c.args.thread c.args.number) outcome.Nothing
    c.only-2.result c.args.out.now c.only-2.ensures
    (late_never _ s w _ st c.args.epoch c.args.kind c.args.thread c.args.number
    (λ is. c.if-epoch-from.false (is ∙ sym c.epoch.ensures ∙ sym c.from.ensures))
    (λ h.
    let t = c.was_sent.ensures.1
    (subst (λ e. HadSent e c.args.epoch c.args.kind c.args.thread c.args.number) (sym c.deref.ensures.value) h) in
    let f = c.if-was_sent.false in cc)))

pub returns-then-was_sent-clause-forgets : goal.returns-then-was_sent-clause-forgets
returns-then-was_sent-clause-forgets g c =
    forgets_none c.args.thread outcome.Old c.only.result _ c.only.ensures (λ h. cc) (λ h. cc)

pub returns-clause-forgets : goal.returns-clause-forgets
returns-clause-forgets g c =
    forgets_none c.args.thread outcome.Nothing c.only-2.result _ c.only-2.ensures (λ h. cc) (λ h. cc)
