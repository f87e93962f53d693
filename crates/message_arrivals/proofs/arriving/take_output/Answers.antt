use Rattle.std.proofs.Common.{length, List, ◌≡◌, ◌<◌, ℕ, [], refl, sym, ap, ◌∙◌, subst, inl, inr, ◌⊎◌, Ok, arith}
use Rattle.dup_filter.specs.Numbers.{Numbers, numbers}
use Rattle.plain_machine.specs.History.{sent_of, outputs}
use Rattle.recovery_world.specs.declared.event.Event.TheVariants as event_is
use Rattle.recovery_world.specs.declared.event.Outcome.TheVariants as outcome
use Rattle.output_releases.proofs.Answering.{counted, at_view, came, came_none}
use Rattle.message_arrivals.proofs.EntryArrivals.{parts_still, same_parts}
use Rattle.message_arrivals.proofs.OutputArrivals.{out_none, out_old, out_is, own_thread, own_number, out_again}
use Rattle.message_arrivals.proofs.OutputArrivals.{out_released, out_waits, was_again, not_again_released}
use Rattle.message_arrivals.proofs.OutputArrivals.{not_again_waits, waits_not_released, pushed_parts, stands_before}
use Rattle.output_releases.proofs.ForgottenOutputs.{forgets_own, stands_forgotten}
use Rattle.message_arrivals.proofs.Forgetting.{forgets_none, forgets_released}
use Rattle.message_arrivals.proofs.arriving.take_output.Goals as goal
use Rattle.message_arrivals.proofs.arriving.take_output.Goals.{then-number-eq0-via-then-number-eq0}
use Rattle.message_arrivals.proofs.arriving.take_output.Goals.{then-number-eq0-via-else-number-eq0+then-number-counts}

pub returns-then-number-eq0-clause-on : goal.returns-then-number-eq0-clause-on
returns-then-number-eq0-clause-on g c =
    came _ _ _ _ _ (event_is.Out c.args.thread c.args.number) c.only.result c.args.out.now c.args.out.now c.core.view_is
    c.core.view_is refl
    (λ s w st.
    let low = subst (λ q. c.args.thread < q.inputs.threads) (sym c.core.view_is) c.requires.thread_in in
    let none = elim c.then-number-eq0.branch as
    (λ _. (c.args.number ≡ 0) ⊎ (outputs c.args.thread (sent_of w.past) < c.args.number)) [
      | then-number-eq0-via-then-number-eq0 k ↦ inl k.if-number-eq0.true
      | then-number-eq0-via-else-number-eq0+then-number-counts k ↦
          inr (let count = counted _ s w _ st c.args.thread k.counts.result low k.counts.ensures in
          let high = k.if-number-counts.true in omega (arith, count.1, high))
    ] in
    out_none _ s w _ st c.args.thread c.args.number low c.only.result c.args.out.now c.only.ensures none)

pub returns-in_default-clause-on : goal.returns-in_default-clause-on
returns-in_default-clause-on g c =
    came _ _ _ _ _ (event_is.Out c.args.thread c.args.number) c.only-in_default.result c.args.out.now c.args.out.now
    c.core.view_is c.core.view_is refl
    (λ s w st.
    let low = subst (λ q. c.args.thread < q.inputs.threads) (sym c.core.view_is) c.requires.thread_in in
    let count = counted _ s w _ st c.args.thread c.counts.result low c.counts.ensures in
    out_old _ s w _ st c.args.thread c.args.number low c.in_ok-output.field-0 c.in_ok-output.ensures.there
    c.in_default.is (omega arith) (omega (arith, count.1)) c.only-in_default.result c.args.out.now
    c.only-in_default.ensures)

pub output-requires-2-clause-thread_in : goal.output-requires-2-clause-thread_in
output-requires-2-clause-thread_in g c =
    let some = at_view _ _ _ c.core.view_is c.requires.stands in
    let low = subst (λ q. c.args.thread < q.inputs.threads) (sym c.core.view_is) c.requires.thread_in in
    let count = counted _ _ _ _ some.2 c.args.thread c.counts.result low c.counts.ensures in
    let of = out_is _ _ _ _ some.2 c.args.thread c.args.number low c.in_ok-output.field-0 c.in-Some.output
    c.in_ok-output.ensures.there c.in_ok-output.ensures.forgotten c.in-Some.is (omega arith) (omega (arith, count.1)) in
    let own = own_thread _ _ _ _ some.2 c.args.thread c.args.number low c.in-Some.output of in
    let lanes = c.core.invariant.logger in
    omega (arith, low, lanes, own)

pub output-requires-2-clause-numbered : goal.output-requires-2-clause-numbered
output-requires-2-clause-numbered g c =
    let some = at_view _ _ _ c.core.view_is c.requires.stands in
    let low = subst (λ q. c.args.thread < q.inputs.threads) (sym c.core.view_is) c.requires.thread_in in
    let count = counted _ _ _ _ some.2 c.args.thread c.counts.result low c.counts.ensures in
    let of = out_is _ _ _ _ some.2 c.args.thread c.args.number low c.in_ok-output.field-0 c.in-Some.output
    c.in_ok-output.ensures.there c.in_ok-output.ensures.forgotten c.in-Some.is (omega arith) (omega (arith, count.1)) in
    let own = own_number _ _ _ _ some.2 c.args.thread c.args.number low c.in-Some.output of in
    let from_one = c.if-number-eq0.false in
    omega (arith, from_one, own)

pub invariant_of-core-in-Release : goal.invariant_of-core-in-Release
invariant_of-core-in-Release g c = parts_still _ _ _ c.forget_outputs.new.self c.output-2.new.self c.push.new.self
    c.core.invariant c.forget_outputs.ensures.forgets.threads (ap (λ held. length held) c.output-2.ensures.held)

pub invariant_of-core-in_err-push-in-Release : goal.invariant_of-core-in_err-push-in-Release
invariant_of-core-in_err-push-in-Release g c = parts_still _ _ _ c.core.inside.sent c.output-2.new.self c.push.new.self
    c.core.invariant refl (ap (λ held. length held) c.output-2.ensures.held)

pub invariant_of-core-in-Wait : goal.invariant_of-core-in-Wait
invariant_of-core-in-Wait g c = parts_still _ _ _ c.core.inside.sent c.output-2.new.self c.core.inside.released
    c.core.invariant refl (ap (λ held. length held) c.output-2.ensures.held)

pub invariant_of-core-in-Again : goal.invariant_of-core-in-Again
invariant_of-core-in-Again g c = parts_still _ _ _ c.core.inside.sent c.output-2.new.self c.core.inside.released
    c.core.invariant refl (ap (λ held. length held) c.output-2.ensures.held)

pub returns-in_ok-push-in-Release-clause-on : goal.returns-in_ok-push-in-Release-clause-on
returns-in_ok-push-in-Release-clause-on g c =
    let took = c.in_ok-output-2.was ∙ ap Ok c.in-Release.is in
    let same = pushed_parts _ _ c.forget_outputs.new.self c.output-2.new.self c.push.new.self
    (c.args.thread, c.args.number) c.core.view_is c.in_ok-push-in-Release.ensures.ok in
    came _ _ _ _ _ (event_is.Out c.args.thread c.args.number) c.only-in-Release.result c.args.out.now c.output-2.new.out
    c.core.view_is same refl
    (λ s w st.
    let low = subst (λ q. c.args.thread < q.inputs.threads) (sym c.core.view_is) c.requires.thread_in in
    let count = counted _ s w _ st c.args.thread c.counts.result low c.counts.ensures in
    let of = out_is _ s w _ st c.args.thread c.args.number low c.in_ok-output.field-0 c.in-Some.output
    c.in_ok-output.ensures.there c.in_ok-output.ensures.forgotten c.in-Some.is (omega arith) (omega (arith, count.1)) in
    let to =
    out_released _ s w _ st c.args.thread c.args.number low c.in-Some.output of c.output-2.new.self
    c.output-2.ensures.held c.output-2.ensures.epoch
    (λ h. not_again_released _ took (c.output-2.ensures.again.1 (c.epoch-epoch.ensures, h))) c.args.out.now
    c.output-2.new.out c.only-in-Release.result (c.output-2.ensures.due took) (c.output-2.ensures.waiting took)
    (c.output-2.ensures.released took) c.output-2.ensures.once c.only-in-Release.ensures in
    let floor =
    c.floor-floor.ensures.value ∙ ap (λ (l : List Numbers). (numbers l c.args.thread).floor) c.released.ensures in
    let forgets = forgets_own _ c.forget_outputs.new.self c.output-2.new.self.released c.args.thread
    c.floor-floor.result floor c.forget_outputs.ensures.forgets in
    (to.0, to.1, stands_forgotten _ s to.0 _ c.forget_outputs.new.self forgets to.2))

pub returns-in-Wait-clause-on : goal.returns-in-Wait-clause-on
returns-in-Wait-clause-on g c =
    let took = c.in_ok-output-2.was ∙ ap Ok c.in-Wait.is in
    came_none _ _ _ _ _ (event_is.Out c.args.thread c.args.number) c.only-in-Wait.result c.args.out.now
    c.output-2.new.out (c.output-2.ensures.none (waits_not_released _ _ _ took)) c.core.view_is refl refl
    (λ s w st.
    let low = subst (λ q. c.args.thread < q.inputs.threads) (sym c.core.view_is) c.requires.thread_in in
    let count = counted _ s w _ st c.args.thread c.counts.result low c.counts.ensures in
    let of = out_is _ s w _ st c.args.thread c.args.number low c.in_ok-output.field-0 c.in-Some.output
    c.in_ok-output.ensures.there c.in_ok-output.ensures.forgotten c.in-Some.is (omega arith) (omega (arith, count.1)) in
    out_waits _ s w _ st c.args.thread c.args.number low c.in-Some.output of c.output-2.new.self c.output-2.ensures.held
    c.output-2.ensures.epoch (λ h. not_again_waits _ _ _ took (c.output-2.ensures.again.1 (c.epoch-epoch.ensures, h)))
    c.args.out.now c.output-2.new.out c.only-in-Wait.result c.in-Wait.thread c.in-Wait.number
    (c.output-2.ensures.missing _ _ took) (c.output-2.ensures.waits _ _ took)
    (c.output-2.ensures.none (waits_not_released _ _ _ took)) c.output-2.ensures.once
    (c.only-in-Wait.ensures
    ∙ ap (λ (u : ℕ). record { outcome = outcome.Waits u c.in-Wait.number; released = [] }) c.from.ensures))

pub returns-in-Again-clause-on : goal.returns-in-Again-clause-on
returns-in-Again-clause-on g c =
    let took = was_again c.output-2.result c.in_ok-output-2.field-0 c.epoch-epoch.result c.core.inside.logger.epoch
    c.in_ok-output-2.was c.in-Again.is c.epoch-epoch.ensures c.output-2.ensures.old.0 in
    came_none _ _ _ _ _ (event_is.Out c.args.thread c.args.number) c.only-in-Again.result c.args.out.now
    c.output-2.new.out (c.output-2.ensures.none took.1) c.core.view_is
    (same_parts _ _ c.output-2.new.self c.core.view_is (c.output-2.ensures.same took.1 took.2)) refl
    (λ s w st.
    let low = subst (λ q. c.args.thread < q.inputs.threads) (sym c.core.view_is) c.requires.thread_in in
    let count = counted _ s w _ st c.args.thread c.counts.result low c.counts.ensures in
    let of = out_is _ s w _ st c.args.thread c.args.number low c.in_ok-output.field-0 c.in-Some.output
    c.in_ok-output.ensures.there c.in_ok-output.ensures.forgotten c.in-Some.is (omega arith) (omega (arith, count.1)) in
    out_again _ s w _ st c.args.thread c.args.number low c.in-Some.output of (c.output-2.ensures.again.0 took.0).1
    c.only-in-Again.result c.args.out.now c.only-in-Again.ensures)

pub returns-then-number-eq0-clause-forgets : goal.returns-then-number-eq0-clause-forgets
returns-then-number-eq0-clause-forgets g c =
    forgets_none c.args.thread outcome.Nothing c.only.result _ c.only.ensures (λ h. cc) (λ h. cc)

pub returns-in_default-clause-forgets : goal.returns-in_default-clause-forgets
returns-in_default-clause-forgets g c =
    forgets_none c.args.thread outcome.Again c.only-in_default.result _ c.only-in_default.ensures (λ h. cc) (λ h. cc)

pub returns-in-Wait-clause-forgets : goal.returns-in-Wait-clause-forgets
returns-in-Wait-clause-forgets g c =
    forgets_none c.args.thread _ c.only-in-Wait.result _ c.only-in-Wait.ensures (λ h. cc) (λ h. cc)

pub returns-in-Again-clause-forgets : goal.returns-in-Again-clause-forgets
returns-in-Again-clause-forgets g c =
    forgets_none c.args.thread outcome.Again c.only-in-Again.result _ c.only-in-Again.ensures (λ h. cc) (λ h. cc)

pub returns-in_ok-push-in-Release-clause-forgets : goal.returns-in_ok-push-in-Release-clause-forgets
returns-in_ok-push-in-Release-clause-forgets g c =
    forgets_released c.args.thread c.floor-floor.result c.only-in-Release.result _ _ c.only-in-Release.ensures
    (c.floor-floor.ensures.value ∙ ap (λ (l : List Numbers). (numbers l c.args.thread).floor) c.released.ensures)
    c.forget_outputs.ensures.forgets

pub release_next-requires-clause-made : goal.release_next-requires-clause-made
release_next-requires-clause-made g c κs within s w st =
    let here = stands_before _ _ _ _ _ c.core.view_is st in
    let low = subst (λ q. c.args.thread < q.inputs.threads) (sym c.core.view_is) c.requires.thread_in in
    let count = counted _ s w _ here c.args.thread c.counts.result low c.counts.ensures in
    let few = c.if-number-counts.false in
    omega (arith, count.1, few)
