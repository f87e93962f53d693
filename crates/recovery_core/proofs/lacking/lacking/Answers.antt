use Rattle.std.proofs.Common.{◌≡◌, ◌<◌, ◌⊎◌, List, sym, subst, inl, inr, arith}
use Rattle.access_log.specs.Held.{Lane, IsFirstMissing, IsWithin}
use Rattle.dup_filter.specs.Numbers.{Numbers, WasMarked}
use Rattle.plain_machine.specs.History.{sent_of, outputs}
use Rattle.system_images.proofs.FromOutputReleases.{counted}
use Rattle.recovery_core.proofs.LackingLemmas.{seen_as, not_numbered, frame_lost, lacks_entry, lacks_arrival}
use Rattle.recovery_core.proofs.lacking.lacking.Goals as goal
use Rattle.recovery_core.proofs.lacking.lacking.Goals.{then-number-eq0-via-then-number-eq0}
use Rattle.recovery_core.proofs.lacking.lacking.Goals.{then-number-eq0-via-else-number-eq0+then-number-counts}

pub returns-then-number-eq0 : goal.returns-then-number-eq0
returns-then-number-eq0 g c = λ s w st.
    let here = seen_as _ s w c.core.view_is st in
    let low = subst (λ q. c.args.thread < q.inputs.threads) (sym c.core.view_is) c.requires in
    not_numbered _ s w _ here c.args.thread c.args.number
    (elim c.then-number-eq0.branch as
    (λ _. (c.args.number ≡ 0) ⊎ (outputs c.args.thread (sent_of w.past) < c.args.number)) [
      | then-number-eq0-via-then-number-eq0 k ↦ inl k.if-number-eq0.true
      | then-number-eq0-via-else-number-eq0+then-number-counts k ↦
          inr (let count = counted _ s w _ here c.args.thread k.counts.result low k.counts.ensures in
          let high = k.if-number-counts.true in omega (arith, count.1, high))
    ])

pub returns-in-Some-missing : goal.returns-in-Some-missing
returns-in-Some-missing g c = λ s w st.
    let here = seen_as _ s w c.core.view_is st in
    let low = subst (λ q. c.args.thread < q.inputs.threads) (sym c.core.view_is) c.requires in
    let count = counted _ s w _ here c.args.thread c.counts.result low c.counts.ensures in
    let few = c.if-number-counts.false in
    lacks_entry _ s w _ here c.args.thread c.args.number low c.in_ok-output.field-0 c.in-Some.output
    (λ was. let seen = c.if-seen.ensures.1 (subst (λ (r : List Numbers). WasMarked r c.args.thread c.args.number)
    (sym c.released.ensures) was) in cc)
    c.in_ok-output.ensures.there c.in_ok-output.ensures.forgotten c.in-Some.is
    (let from = c.if-number-eq0.false in omega (arith, from)) (omega (arith, count.1, few))
    c.in-Some-missing.thread c.in-Some-missing.number
    (subst (λ (h : List Lane). IsFirstMissing h c.in-Some.output.stamp c.in-Some-missing.thread
    c.in-Some-missing.number) c.held.ensures c.in-Some-missing.ensures)

pub returns-in-Some : goal.returns-in-Some
returns-in-Some g c = λ s w st.
    let here = seen_as _ s w c.core.view_is st in
    let low = subst (λ q. c.args.thread < q.inputs.threads) (sym c.core.view_is) c.requires in
    let count = counted _ s w _ here c.args.thread c.counts.result low c.counts.ensures in
    let few = c.if-number-counts.false in
    lacks_arrival _ s w _ here c.args.thread c.args.number low c.in_ok-output.field-0 c.in-Some.output
    (λ was. let seen = c.if-seen.ensures.1 (subst (λ (r : List Numbers). WasMarked r c.args.thread c.args.number)
    (sym c.released.ensures) was) in cc)
    c.in_ok-output.ensures.there c.in_ok-output.ensures.forgotten c.in-Some.is
    (let from = c.if-number-eq0.false in omega (arith, from)) (omega (arith, count.1, few))
    (subst (λ (h : List Lane). IsWithin h c.in-Some.output.stamp) c.held.ensures c.in-None-missing.ensures)

pub returns : goal.returns
returns g c = λ s w st.
    let here = seen_as _ s w c.core.view_is st in
    let low = subst (λ q. c.args.thread < q.inputs.threads) (sym c.core.view_is) c.requires in
    let count = counted _ s w _ here c.args.thread c.counts.result low c.counts.ensures in
    let few = c.if-number-counts.false in
    frame_lost _ s w _ here c.args.thread c.args.number c.in_ok-output.field-0
    (λ was. let seen = c.if-seen.ensures.1 (subst (λ (r : List Numbers). WasMarked r c.args.thread c.args.number)
    (sym c.released.ensures) was) in cc)
    c.in_ok-output.ensures.there c.in-None.is (let from = c.if-number-eq0.false in omega (arith, from))
    (omega (arith, count.1, few))
