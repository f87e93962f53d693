use Rattle.std.proofs.Common.{◌≡◌, ◌<◌, ℕ, List, refl, sym, ap, ◌∙◌, subst, inl, inr, ◌⊎◌, Ok, arith}
use Rattle.entry_order.specs.Log.{entries}
use Rattle.plain_machine.specs.History.{log_of}
use Rattle.access_log.specs.Held.{Lane, lane, IsFrontier}
use Rattle.dup_filter.specs.Numbers.{Numbers}
use Rattle.output_logger.specs.Logger.{appended}
use Rattle.recovery_world.specs.declared.event.Outcome.TheVariants as outcome
use Rattle.recovery_world.specs.declared.event.Event.TheVariants as event_is
use Rattle.output_releases.specs.Released.{ForgetsReleased, AreForgotten}
use Rattle.output_releases.proofs.ForgottenOutputs.{stands_forgotten}
use Rattle.output_releases.proofs.Answering.{counted, at_view, came, came_none}
use Rattle.message_arrivals.proofs.EntryArrivals.{parts_still, log_none, log_old, log_found, log_known, log_new}
use Rattle.message_arrivals.proofs.EntryArrivals.{not_known, was_known, same_parts, noted_new}
use Rattle.message_arrivals.proofs.Forgetting.{forgets_none, forgets_new}
use Rattle.output_releases.proofs.OutputLists.{behind}
use Rattle.output_releases.proofs.ReleasedLists.{appends_same}
use Rattle.message_arrivals.proofs.arriving.take_entry.Goals as goal
use Rattle.message_arrivals.proofs.arriving.take_entry.Goals.{then-number-eq0-via-then-number-eq0}
use Rattle.message_arrivals.proofs.arriving.take_entry.Goals.{then-number-eq0-via-else-number-eq0+then-number-counts}

pub returns-then-number-eq0-clause-on : goal.returns-then-number-eq0-clause-on
returns-then-number-eq0-clause-on g c =
    came _ _ _ _ _ (event_is.Log c.args.thread c.args.number) c.only.result c.args.out.now c.args.out.now c.core.view_is
    c.core.view_is refl
    (λ s w st.
    let low = subst (λ q. c.args.thread < q.inputs.threads) (sym c.core.view_is) c.requires.thread_in in
    let none = elim c.then-number-eq0.branch as
    (λ _. (c.args.number ≡ 0) ⊎ (entries c.args.thread (log_of w.past) < c.args.number)) [
      | then-number-eq0-via-then-number-eq0 k ↦ inl k.if-number-eq0.true
      | then-number-eq0-via-else-number-eq0+then-number-counts k ↦
          inr (let count = counted _ s w _ st c.args.thread k.counts.result low k.counts.ensures in
          let high = k.if-number-counts.true in omega (arith, count.0, high))
    ] in
    log_none _ s w _ st c.args.thread c.args.number low c.only.result c.args.out.now c.only.ensures none)

pub returns-in_default-clause-on : goal.returns-in_default-clause-on
returns-in_default-clause-on g c =
    came _ _ _ _ _ (event_is.Log c.args.thread c.args.number) c.only-in_default.result c.args.out.now c.args.out.now
    c.core.view_is c.core.view_is refl
    (λ s w st.
    let low = subst (λ q. c.args.thread < q.inputs.threads) (sym c.core.view_is) c.requires.thread_in in
    let count = counted _ s w _ st c.args.thread c.counts.result low c.counts.ensures in
    log_old _ s w _ st c.args.thread c.args.number low c.in_ok-entry.field-0 c.in_ok-entry.ensures.there c.in_default.is
    (omega arith) (omega (arith, count.0)) c.only-in_default.result c.args.out.now c.only-in_default.ensures)

pub entry-requires-2-clause-thread_in : goal.entry-requires-2-clause-thread_in
entry-requires-2-clause-thread_in g c =
    let some = at_view _ _ _ c.core.view_is c.requires.stands in
    let low = subst (λ q. c.args.thread < q.inputs.threads) (sym c.core.view_is) c.requires.thread_in in
    let count = counted _ _ _ _ some.2 c.args.thread c.counts.result low c.counts.ensures in
    let of = log_found _ _ _ _ some.2 c.args.thread c.args.number low c.in_ok-entry.field-0 c.in-Some.entry
    c.in_ok-entry.ensures.there c.in_ok-entry.ensures.forgotten c.in-Some.is (omega arith) (omega (arith, count.0)) in
    let lanes = c.core.invariant.logger in
    omega (arith, low, lanes, of.thread)

pub entry-requires-2-clause-numbered : goal.entry-requires-2-clause-numbered
entry-requires-2-clause-numbered g c =
    let some = at_view _ _ _ c.core.view_is c.requires.stands in
    let low = subst (λ q. c.args.thread < q.inputs.threads) (sym c.core.view_is) c.requires.thread_in in
    let count = counted _ _ _ _ some.2 c.args.thread c.counts.result low c.counts.ensures in
    let of = log_found _ _ _ _ some.2 c.args.thread c.args.number low c.in_ok-entry.field-0 c.in-Some.entry
    c.in_ok-entry.ensures.there c.in_ok-entry.ensures.forgotten c.in-Some.is (omega arith) (omega (arith, count.0)) in
    let from_one = c.if-number-eq0.false in
    omega (arith, from_one, of.number)

pub returns-in_ok-released-in-New-clause-on : goal.returns-in_ok-released-in-New-clause-on
returns-in_ok-released-in-New-clause-on g c =
    let took = c.in_ok-entry-2.was ∙ ap Ok c.in-New.is in
    let frontier = subst (λ (held : List Lane). IsFrontier (lane held c.args.thread) c.frontier-known.result)
    c.held.ensures c.frontier-known.ensures in
    let noted = noted_new _ _ _ c.forget_some.new.sent c.entry-2.new.self _ (appended c.args.out.now c.entry-2.new.out)
    c.in_ok-released-in-New.released c.core.view_is
    (behind c.as_slice.result.now c.entry-2.new.out c.args.out.now c.len-before.result c.as_slice.ensures
    c.len-before.ensures) c.in_ok-released-in-New.ensures in
    came _ _ _ _ _ (event_is.Log c.args.thread c.args.number)
    (record { outcome = outcome.New; released = c.in_ok-released-in-New.released }) c.args.out.now c.entry-2.new.out
    c.core.view_is noted.1 refl
    (λ s w st.
    let low = subst (λ q. c.args.thread < q.inputs.threads) (sym c.core.view_is) c.requires.thread_in in
    let count = counted _ s w _ st c.args.thread c.counts.result low c.counts.ensures in
    let of = log_found _ s w _ st c.args.thread c.args.number low c.in_ok-entry.field-0 c.in-Some.entry
    c.in_ok-entry.ensures.there c.in_ok-entry.ensures.forgotten c.in-Some.is (omega arith) (omega (arith, count.0)) in
    let to =
    log_new _ s w _ st c.args.thread c.args.number low c.in-Some.entry of c.entry-2.new.self
    (λ k. absurd (not_known _ took (c.entry-2.ensures.known.1 (c.epoch-epoch.ensures, k)))) (c.entry-2.ensures.new took)
    c.entry-2.ensures.others c.forget_entries.new.self _ c.args.out.now c.entry-2.new.out
    (appended c.args.out.now c.entry-2.new.out)
    (record { outcome = outcome.New; released = c.in_ok-released-in-New.released }) c.entry-2.ensures.appends
    c.entry-2.ensures.epoch (c.entry-2.ensures.released took) c.entry-2.ensures.once
    (λ k up_to. frontier.reached k (omega (arith, up_to))) c.forget_entries.ensures.forgets
    (ap (λ (l : List (ℕ × ℕ)). record { outcome = outcome.New; released = l }) noted.0) in
    let forgets = subst (λ (l : List Numbers). ForgetsReleased c.forget_entries.new.self c.forget_some.new.sent l)
    c.released.ensures c.forget_some.ensures.only in
    (to.0, to.1, stands_forgotten _ s to.0 _ c.forget_some.new.sent forgets to.2))

pub returns-in-Known : goal.returns-in-Known
returns-in-Known g c =
    let took = was_known c.entry-2.result c.in_ok-entry-2.field-0 c.epoch-epoch.result c.core.inside.logger.epoch
    c.in_ok-entry-2.was c.in-Known.is c.epoch-epoch.ensures c.entry-2.ensures.old.0 in
    record {
      on = came_none _ _ _ _ _ (event_is.Log c.args.thread c.args.number) c.only-in-Known.result c.args.out.now
          c.entry-2.new.out (c.entry-2.ensures.none took.1) c.core.view_is
          (same_parts _ _ c.entry-2.new.self c.core.view_is (c.entry-2.ensures.same took.1)) refl
          (λ s w st.
          let low = subst (λ q. c.args.thread < q.inputs.threads) (sym c.core.view_is) c.requires.thread_in in
          let count = counted _ s w _ st c.args.thread c.counts.result low c.counts.ensures in
          let of = log_found _ s w _ st c.args.thread c.args.number low c.in_ok-entry.field-0 c.in-Some.entry
          c.in_ok-entry.ensures.there c.in_ok-entry.ensures.forgotten c.in-Some.is (omega arith)
          (omega (arith, count.0)) in
          log_known _ s w _ st c.args.thread c.args.number low c.in-Some.entry of (c.entry-2.ensures.known.0 took.0).1
          c.only-in-Known.result c.args.out.now c.only-in-Known.ensures);
      appends = appends_same c.args.out.now c.entry-2.new.out (c.entry-2.ensures.none took.1);
      forgets = forgets_none c.args.thread outcome.Known c.only-in-Known.result _ c.only-in-Known.ensures (λ h. cc)
          (λ h. cc);
    }

pub returns-then-number-eq0-clause-forgets : goal.returns-then-number-eq0-clause-forgets
returns-then-number-eq0-clause-forgets g c =
    forgets_none c.args.thread outcome.Nothing c.only.result _ c.only.ensures (λ h. cc) (λ h. cc)

pub returns-in_default-clause-forgets : goal.returns-in_default-clause-forgets
returns-in_default-clause-forgets g c =
    forgets_none c.args.thread outcome.Known c.only-in_default.result _ c.only-in_default.ensures (λ h. cc) (λ h. cc)

pub returns-in_ok-released-in-New-clause-forgets : goal.returns-in_ok-released-in-New-clause-forgets
returns-in_ok-released-in-New-clause-forgets g c =
    let frontier = subst (λ (held : List Lane). IsFrontier (lane held c.args.thread) c.frontier-known.result)
    c.held.ensures c.frontier-known.ensures in
    let only = subst (λ (l : List Numbers). ForgetsReleased c.forget_entries.new.self c.forget_some.new.sent l)
    c.released.ensures c.forget_some.ensures.only in
    forgets_new _ c.forget_entries.new.self c.forget_some.new.sent c.entry-2.new.self c.args.thread
    c.frontier-known.result frontier c.forget_entries.ensures.forgets only _ _ _ c.threads.result _ _ c.core.view_is
    c.threads.ensures.value
    (λ some. subst (λ (l : List Numbers). AreForgotten c.forget_some.new.sent l c.threads.result) c.released.ensures
    (c.forget_some.ensures.all some)) c.in_ok-released-in-New.ensures

pub invariant_of-core-in-New : goal.invariant_of-core-in-New
invariant_of-core-in-New g c =
    parts_still _ _ _ c.forget_some.new.sent c.entry-2.new.self c.core.inside.released c.core.invariant
    (c.forget_some.ensures.only.threads ∙ c.forget_entries.ensures.forgets.threads) c.entry-2.ensures.threads

pub invariant_of-core-in-Known : goal.invariant_of-core-in-Known
invariant_of-core-in-Known g c = parts_still _ _ _ c.core.inside.sent c.entry-2.new.self c.core.inside.released
    c.core.invariant refl c.entry-2.ensures.threads
