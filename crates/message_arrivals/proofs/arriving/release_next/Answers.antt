use Rattle.std.proofs.Common.{◌≡◌, ◌+◌, ◌<◌, List, refl, sym, ap, ◌∙◌, subst, arith}
use Rattle.dup_filter.specs.Numbers.{Numbers, numbers, WasMarked}
use Rattle.recovery_world.specs.declared.event.Event.TheVariants as event_is
use Rattle.output_releases.proofs.Answering.{came}
use Rattle.output_releases.proofs.ForgottenOutputs.{forgets_own, stands_forgotten}
use Rattle.message_arrivals.proofs.OutputArrivals.{frame_there, taken_is, not_none, own_thread, own_number, to_own}
use Rattle.message_arrivals.proofs.OutputArrivals.{out_released, pushed_parts, stands_before}
use Rattle.message_arrivals.proofs.Forgetting.{takes_then_forgets, next_past}
use Rattle.message_arrivals.proofs.arriving.release_next.Goals as goal

pub returns-in_default-clause-on : goal.returns-in_default-clause-on
returns-in_default-clause-on g c =
    let s = c.requires.stands.0 in
    let w = c.requires.stands.1 in
    let st = stands_before _ _ _ _ _ c.core.view_is c.requires.stands.2 in
    let low = subst (λ q. c.args.thread < q.inputs.threads) (sym c.core.view_is) c.requires.thread_in in
    let goes = rw (← c.core.view_is) at c.requires.goes in
    let few = c.requires.made s w c.requires.stands.2 in
    let there = frame_there _ s w _ st c.args.thread c.args.number low goes.fresh c.requires.numbered few in
    absurd (not_none w c.core.inside.sent c.core.inside.logger c.args.thread c.args.number there c.in_ok-output.field-0
    c.in_ok-output.ensures.there c.in_default.is)

pub send-requires-clause-thread_in : goal.send-requires-clause-thread_in
send-requires-clause-thread_in g c =
    let s = c.requires.stands.0 in
    let w = c.requires.stands.1 in
    let st = stands_before _ _ _ _ _ c.core.view_is c.requires.stands.2 in
    let low = subst (λ q. c.args.thread < q.inputs.threads) (sym c.core.view_is) c.requires.thread_in in
    let goes = rw (← c.core.view_is) at c.requires.goes in
    let few = c.requires.made s w c.requires.stands.2 in
    let there = frame_there _ s w _ st c.args.thread c.args.number low goes.fresh c.requires.numbered few in
    let taken = taken_is w c.core.inside.sent c.core.inside.logger c.args.thread c.args.number there
    c.in_ok-output.field-0 c.in_ok-output.ensures.there c.in-Some.output c.in-Some.is goes in
    let own = own_thread _ s w _ st c.args.thread c.args.number low c.in-Some.output taken.0 in
    let lanes = c.core.invariant.logger in
    omega (arith, low, lanes, own)

pub send-requires-clause-numbered : goal.send-requires-clause-numbered
send-requires-clause-numbered g c =
    let s = c.requires.stands.0 in
    let w = c.requires.stands.1 in
    let st = stands_before _ _ _ _ _ c.core.view_is c.requires.stands.2 in
    let low = subst (λ q. c.args.thread < q.inputs.threads) (sym c.core.view_is) c.requires.thread_in in
    let goes = rw (← c.core.view_is) at c.requires.goes in
    let few = c.requires.made s w c.requires.stands.2 in
    let there = frame_there _ s w _ st c.args.thread c.args.number low goes.fresh c.requires.numbered few in
    let taken = taken_is w c.core.inside.sent c.core.inside.logger c.args.thread c.args.number there
    c.in_ok-output.field-0 c.in_ok-output.ensures.there c.in-Some.output c.in-Some.is goes in
    let own = own_number _ s w _ st c.args.thread c.args.number low c.in-Some.output taken.0 in
    let from = c.requires.numbered in
    omega (arith, from, own)

pub send-requires-clause-fresh : goal.send-requires-clause-fresh
send-requires-clause-fresh g c =
    let s = c.requires.stands.0 in
    let w = c.requires.stands.1 in
    let st = stands_before _ _ _ _ _ c.core.view_is c.requires.stands.2 in
    let low = subst (λ q. c.args.thread < q.inputs.threads) (sym c.core.view_is) c.requires.thread_in in
    let goes = rw (← c.core.view_is) at c.requires.goes in
    let few = c.requires.made s w c.requires.stands.2 in
    let there = frame_there _ s w _ st c.args.thread c.args.number low goes.fresh c.requires.numbered few in
    let taken = taken_is w c.core.inside.sent c.core.inside.logger c.args.thread c.args.number there
    c.in_ok-output.field-0 c.in_ok-output.ensures.there c.in-Some.output c.in-Some.is goes in
    λ h. goes.fresh (to_own _ s w _ st c.args.thread c.args.number low c.in-Some.output taken.0 h)

pub send-requires-clause-due : goal.send-requires-clause-due
send-requires-clause-due g c =
    let s = c.requires.stands.0 in
    let w = c.requires.stands.1 in
    let st = stands_before _ _ _ _ _ c.core.view_is c.requires.stands.2 in
    let low = subst (λ q. c.args.thread < q.inputs.threads) (sym c.core.view_is) c.requires.thread_in in
    let goes = rw (← c.core.view_is) at c.requires.goes in
    let few = c.requires.made s w c.requires.stands.2 in
    let there = frame_there _ s w _ st c.args.thread c.args.number low goes.fresh c.requires.numbered few in
    let taken = taken_is w c.core.inside.sent c.core.inside.logger c.args.thread c.args.number there
    c.in_ok-output.field-0 c.in_ok-output.ensures.there c.in-Some.output c.in-Some.is goes in
    taken.1

pub returns-clause-on : goal.returns-clause-on
returns-clause-on g c =
    let same = pushed_parts _ _ c.forget_outputs.new.self c.send.new.self c.push.new.self
    (c.args.thread, c.args.number) c.core.view_is c.in_ok-push.ensures.ok in
    let goes = rw (← c.core.view_is) at c.requires.goes in
    came _ _ _ _ _ (event_is.Out c.args.thread c.args.number) c.only-2.result c.args.out.now c.send.new.out
    c.core.view_is same refl
    (λ s w st.
    let low = subst (λ q. c.args.thread < q.inputs.threads) (sym c.core.view_is) c.requires.thread_in in
    let few = c.requires.made s w (stands_before _ _ _ _ _ (sym c.core.view_is) st) in
    let there = frame_there _ s w _ st c.args.thread c.args.number low goes.fresh c.requires.numbered few in
    let taken = taken_is w c.core.inside.sent c.core.inside.logger c.args.thread c.args.number there
    c.in_ok-output.field-0 c.in_ok-output.ensures.there c.in-Some.output c.in-Some.is goes in
    let x = c.in-Some.output in
    let of = taken.0 in
    let to =
    out_released _ s w _ st c.args.thread c.args.number low x of c.send.new.self c.send.ensures.held
    c.send.ensures.epoch (λ h. goes.fresh (to_own _ s w _ st c.args.thread c.args.number low x of h)) c.args.out.now
    c.send.new.out c.only-2.result taken.1 c.send.ensures.waiting c.in_ok-send.ensures.released c.send.ensures.once
    c.only-2.ensures in
    let floor =
    c.floor-floor.ensures.value ∙ ap (λ (l : List Numbers). (numbers l c.args.thread).floor) c.released.ensures in
    let behind = subst (λ (l : List Numbers). WasMarked l c.args.thread (c.floor-floor.result + 1) → ⊥)
    c.released.ensures c.floor-floor.ensures.behind in
    let past = next_past c.core.inside.logger.released c.send.new.self.released c.args.out.now c.send.new.out x
    c.args.thread c.args.number c.floor-floor.result goes.next
    (own_thread _ s w _ st c.args.thread c.args.number low x of)
    (own_number _ s w _ st c.args.thread c.args.number low x of) c.in_ok-send.ensures.released c.send.ensures.once
    behind in
    let forgets = forgets_own _ c.forget_outputs.new.self c.send.new.self.released c.args.thread c.floor-floor.result
    floor (takes_then_forgets _ _ _ c.args.thread c.args.number c.floor-floor.result past c.take_output.ensures.others
    c.forget_outputs.ensures.forgets) in
    (to.0, to.1, stands_forgotten _ s to.0 _ c.forget_outputs.new.self forgets to.2))
