use Rattle.std.proofs.Common.{◌<◌, ◌≤◌, refl, arith}
use Rattle.std.proofs.lemmas.Result.{IfOk-weaker}
use Rattle.recovery_world.specs.declared.event.Event.TheVariants as event_is
use Rattle.recovery_world.specs.declared.event.Outcome.TheVariants as outcome
use Rattle.message_arrivals.specs.Arriving.{arrival_of}
use Rattle.output_releases.proofs.Answering.{came, stays}
use Rattle.message_arrivals.proofs.Arrivals.{moves_as, cut_nowhere, cut_nothing, cut_short, cut_whole}
use Rattle.message_arrivals.proofs.Forgetting.{forgets_none}
use Rattle.message_arrivals.proofs.arriving.arrive_cut.Goals as goal

pub returns-then-thread-from-clause-on : goal.returns-then-thread-from-clause-on
returns-then-thread-from-clause-on g c =
    came _ _ _ _ _ (event_is.Cut c.args.kind c.args.thread c.args.number c.args.length) c.only.result c.args.out.now
    c.args.out.now c.core.view_is c.core.view_is refl
    (λ s w st.
    let high : c.core.inside.inputs.threads ≤ c.args.thread =
    omega (arith, c.if-thread-from.true, c.from.ensures, c.threads.ensures.value) in
    stays _ s w _ st (event_is.Cut c.args.kind c.args.thread c.args.number c.args.length) outcome.Nothing c.only.result
    c.args.out.now c.only.ensures (cut_nowhere _ s w _ st c.args.kind c.args.thread c.args.number c.args.length high))

pub returns-in_default-clause-on : goal.returns-in_default-clause-on
returns-in_default-clause-on g c =
    came _ _ _ _ _ (event_is.Cut c.args.kind c.args.thread c.args.number c.args.length) c.only-in_default.result
    c.args.out.now c.args.out.now c.core.view_is c.core.view_is refl
    (λ s w st.
    let low : c.args.thread < c.core.inside.inputs.threads =
    omega (arith, c.if-thread-from.false, c.from.ensures, c.threads.ensures.value) in
    stays _ s w _ st (event_is.Cut c.args.kind c.args.thread c.args.number c.args.length) outcome.Nothing
    c.only-in_default.result c.args.out.now c.only-in_default.ensures
    (cut_nothing _ s w _ st c.args.kind c.args.thread c.args.number c.args.length low c.in_default.ensures.entry
    c.in_default.ensures.output))

pub returns-then-length-whole-clause-on : goal.returns-then-length-whole-clause-on
returns-then-length-whole-clause-on g c =
    came _ _ _ _ _ (event_is.Cut c.args.kind c.args.thread c.args.number c.args.length) c.only-then-length-whole.result
    c.args.out.now c.args.out.now c.core.view_is c.core.view_is refl
    (λ s w st.
    let low : c.args.thread < c.core.inside.inputs.threads =
    omega (arith, c.if-thread-from.false, c.from.ensures, c.threads.ensures.value) in
    stays _ s w _ st (event_is.Cut c.args.kind c.args.thread c.args.number c.args.length) outcome.Short
    c.only-then-length-whole.result c.args.out.now c.only-then-length-whole.ensures
    (cut_short _ s w _ st c.args.kind c.args.thread c.args.number c.args.length c.in-Some.whole low
    c.in-Some.ensures.entry c.in-Some.ensures.output c.if-length-whole.true))

pub returns-clause-on : goal.returns-clause-on
returns-clause-on g c =
    IfOk-weaker c.arrive.result _ _
    (λ reply moves.
    moves_as _ (arrival_of c.args.kind c.args.thread c.args.number)
    (event_is.Cut c.args.kind c.args.thread c.args.number c.args.length) reply c.args.out.now c.arrive.new.out _ _ _
    c.core.view_is
    (λ s w st.
    let low : c.args.thread < c.core.inside.inputs.threads =
    omega (arith, c.if-thread-from.false, c.from.ensures, c.threads.ensures.value) in
    cut_whole _ s w _ st c.args.kind c.args.thread c.args.number c.args.length c.in-Some.whole low
    c.in-Some.ensures.entry c.in-Some.ensures.output c.if-length-whole.false) moves) c.arrive.ensures.on

pub returns-then-thread-from-clause-forgets : goal.returns-then-thread-from-clause-forgets
returns-then-thread-from-clause-forgets g c =
    forgets_none c.args.thread outcome.Nothing c.only.result _ c.only.ensures (λ h. cc) (λ h. cc)

pub returns-in_default-clause-forgets : goal.returns-in_default-clause-forgets
returns-in_default-clause-forgets g c =
    forgets_none c.args.thread outcome.Nothing c.only-in_default.result _ c.only-in_default.ensures (λ h. cc) (λ h. cc)

pub returns-then-length-whole-clause-forgets : goal.returns-then-length-whole-clause-forgets
returns-then-length-whole-clause-forgets g c =
    forgets_none c.args.thread outcome.Short c.only-then-length-whole.result _ c.only-then-length-whole.ensures
    (λ h. cc) (λ h. cc)
