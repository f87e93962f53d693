use Rattle.std.proofs.Common.{ℕ, List, length, refl, ap, ◌∙◌, subst, inl}
use Rattle.plain_machine.specs.History.{log_of}
use Rattle.dup_filter.specs.Numbers.{Numbers}
use Rattle.output_logger.specs.Logger.{appended}
use Rattle.recovery_world.specs.declared.event.Event.TheVariants as event_is
use Rattle.recovery_world.specs.declared.event.Outcome.TheVariants as outcome
use Rattle.output_releases.specs.Released.{ForgetsReleased}
use Rattle.output_releases.proofs.ForgottenOutputs.{stands_forgotten}
use Rattle.output_releases.proofs.Answering.{at_view, came, stays}
use Rattle.output_releases.proofs.OutputLists.{behind}
use Rattle.snapshot_steps.proofs.StoreLemmas.{store_same, no_copy, some_copy, copy_there, covered_low, stores, total_of}
use Rattle.snapshot_steps.proofs.StoreLemmas.{noted_stored, parts_stored}
use Rattle.snapshot_steps.proofs.snapshots.store.Goals as goal

pub returns-in_default-clause-on : goal.returns-in_default-clause-on
returns-in_default-clause-on g c =
    let none = c.store.ensures.none.0 c.in_default.is in
    came _ _ _ _ _ event_is.Store c.only.result c.args.out.now c.args.out.now c.core.view_is
    (store_same _ c.store.new.self (c.store.ensures.unchanged none) ∙ refl) refl
    (λ s w st.
    stays _ s w _ st event_is.Store outcome.Nothing c.only.result c.args.out.now c.only.ensures
    (inl (no_copy _ s w _ st none, refl, refl, refl)))

pub covered-requires : goal.covered-requires
covered-requires g c = λ t low.
    let some = at_view _ _ _ c.core.view_is c.requires.stands in
    let k = copy_there _ c.store.result c.in-Some.counts c.store.ensures.none c.in-Some.is in
    let has = some_copy _ _ _ _ k.0 some.2 k.1 in
    covered_low _ _ _ _ some.2 has.0 has.1 k.0 has.2 c.in-Some.counts
    (c.store.ensures.counts k.0 k.1 c.in-Some.counts c.in-Some.is) t

pub invariant_of-core-in_err-covered : goal.invariant_of-core-in_err-covered
invariant_of-core-in_err-covered g c =
    let k = copy_there _ c.store.result c.in-Some.counts c.store.ensures.none c.in-Some.is in
    parts_stored _ _ _ k.0 c.store.new.self c.core.inside.sent c.covered.new.self c.core.inside.released
    c.core.invariant k.1 (c.store.ensures.stored k.0 k.1) c.store.ensures.no_copy refl c.covered.ensures.threads

pub invariant_of-core-2 : goal.invariant_of-core-2
invariant_of-core-2 g c =
    let k = copy_there _ c.store.result c.in-Some.counts c.store.ensures.none c.in-Some.is in
    parts_stored _ _ _ k.0 c.store.new.self c.forget_released.new.sent c.covered.new.self c.core.inside.released
    c.core.invariant k.1 (c.store.ensures.stored k.0 k.1) c.store.ensures.no_copy
    (c.forget_released.ensures.only.threads ∙ c.forget_stored.ensures.threads) c.covered.ensures.threads

pub returns-clause-on : goal.returns-clause-on
returns-clause-on g c =
    let k = copy_there _ c.store.result c.in-Some.counts c.store.ensures.none c.in-Some.is in
    let noted = noted_stored _ _ _ c.store.new.self c.forget_released.new.sent c.covered.new.self _
    (appended c.args.out.now c.covered.new.out) c.in_ok-released.released c.core.view_is
    (behind c.as_slice.result.now c.covered.new.out c.args.out.now c.len-before.result c.as_slice.ensures
    c.len-before.ensures) c.in_ok-released.ensures in
    came _ _ _ _ _ event_is.Store
    (record { outcome = outcome.Covers c.total.result; released = c.in_ok-released.released }) c.args.out.now
    c.covered.new.out c.core.view_is noted.1 refl
    (λ s w st.
    let has = some_copy _ s w _ k.0 st k.1 in
    let counted = c.store.ensures.counts k.0 k.1 c.in-Some.counts c.in-Some.is in
    let to =
    stores _ s w _ st has.0 has.1 k.0 has.2 c.in-Some.counts counted c.covered.new.self c.covered.ensures.threads
    c.core.invariant.logger c.in_ok-covered.ensures.covers c.forget_stored.new.sent c.forget_stored.ensures
    c.store.new.self c.args.out.now c.covered.new.out (appended c.args.out.now c.covered.new.out)
    (record { outcome = outcome.Covers c.total.result; released = c.in_ok-released.released }) c.covered.ensures.appends
    (c.store.ensures.stored k.0 k.1) c.store.ensures.no_copy c.covered.ensures.epoch c.in_ok-covered.ensures.released
    c.covered.ensures.once
    (ap (λ (n : ℕ). record { outcome = outcome.Covers n; released = c.in_ok-released.released })
    (total_of _ s w _ st has.0 has.1 k.0 has.2 c.in-Some.counts counted c.total.result c.total.ensures.all
    c.total.ensures.total c.core.invariant.few_threads c.core.invariant.moves)
    ∙ ap (λ (l : List (ℕ × ℕ)). record { outcome = outcome.Covers (length (log_of has.0)); released = l }) noted.0) in
    let forgets = subst (λ (l : List Numbers). ForgetsReleased c.forget_stored.new.sent c.forget_released.new.sent l)
    c.released.ensures c.forget_released.ensures.only in
    (to.0, to.1, stands_forgotten _ s to.0 _ c.forget_released.new.sent forgets to.2))
