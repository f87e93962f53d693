use Rattle.std.proofs.Common.{drop, length, ℕ, ◌+◌, ◌≡◌, ◌∙◌, ap}
use Rattle.std.proofs.lemmas.List.{take_at}
use Rattle.access_log.specs.Held.{lane, held_count}
use Rattle.access_log.specs.Lanes.{RetainsAtMost, IsHeldSet}
use Rattle.access_log.proofs.LaneLemmas.{closed_from_retained, IsHeldSet-retained}
use Rattle.access_log.proofs.MemberLemmas.{number_of_members, number_dropped}
use Rattle.access_log.proofs.held.Held.closed_part.Goals as goal

pub invariant_of-self : goal.invariant_of-self
invariant_of-self c =
    let old = c.self.inside.lanes.items in
    let new = c.retain_in_each-dropped.new.lanes in
    let len : length new ≡ length old = c.retain_in_each-dropped.auto.lanes ∙ ap length c.deref_mut.ensures.value in
    let whole = take_at new (drop (length new) old) c.self.inside.lanes.len
    (c.retain_in_each-dropped.auto.lanes ∙ c.deref_mut.ensures.len) in
    rw whole (IsHeldSet-retained old new c.frontiers-frontiers.result c.self.invariant
    (rw (← c.deref_mut.ensures.value) c.retain_in_each-dropped.ensures.retained) len
    (rw (← c.deref_mut.ensures.value) c.retain_in_each-dropped.ensures.rising))

pub returns-clause-closed : goal.returns-clause-closed
returns-clause-closed c =
    let old = c.self.inside.lanes.items in
    let new = c.retain_in_each-dropped.new.lanes in
    let len : length new ≡ length old = c.retain_in_each-dropped.auto.lanes ∙ ap length c.deref_mut.ensures.value in
    let whole = take_at new (drop (length new) old) c.self.inside.lanes.len
    (c.retain_in_each-dropped.auto.lanes ∙ c.deref_mut.ensures.len) in
    rw whole (closed_from_retained c.args.self.now new c.frontiers-frontiers.result
    (rw (← c.self.view_is, ← c.deref_mut.ensures.value) c.retain_in_each-dropped.ensures.retained)
    c.frontiers-frontiers.ensures)

pub returns-clause-kept : goal.returns-clause-kept
returns-clause-kept c =
    let old = c.self.inside.lanes.items in
    let new = c.retain_in_each-dropped.new.lanes in
    let len : length new ≡ length old = c.retain_in_each-dropped.auto.lanes ∙ ap length c.deref_mut.ensures.value in
    let whole = take_at new (drop (length new) old) c.self.inside.lanes.len
    (c.retain_in_each-dropped.auto.lanes ∙ c.deref_mut.ensures.len) in
    let set : IsHeldSet new = IsHeldSet-retained old new c.frontiers-frontiers.result c.self.invariant
    (rw (← c.deref_mut.ensures.value) c.retain_in_each-dropped.ensures.retained) len
    (rw (← c.deref_mut.ensures.value) c.retain_in_each-dropped.ensures.rising) in
    let counted : c.count_held-kept.result ≡ held_count new =
    c.count_held-kept.ensures ∙ ap held_count (c.deref.ensures.value ∙ whole) in
    rw (whole, counted) (number_of_members new set)

pub returns-clause-dropped : goal.returns-clause-dropped
returns-clause-dropped c =
    let old = c.self.inside.lanes.items in
    let new = c.retain_in_each-dropped.new.lanes in
    let len : length new ≡ length old = c.retain_in_each-dropped.auto.lanes ∙ ap length c.deref_mut.ensures.value in
    let whole = take_at new (drop (length new) old) c.self.inside.lanes.len
    (c.retain_in_each-dropped.auto.lanes ∙ c.deref_mut.ensures.len) in
    let retained : (t : ℕ) → RetainsAtMost (lane old t) (lane new t) c.frontiers-frontiers.result =
    rw (← c.deref_mut.ensures.value) c.retain_in_each-dropped.ensures.retained in
    let set : IsHeldSet new = IsHeldSet-retained old new c.frontiers-frontiers.result c.self.invariant retained len
    (rw (← c.deref_mut.ensures.value) c.retain_in_each-dropped.ensures.rising) in
    let counted : held_count new + c.retain_in_each-dropped.result ≡ held_count old =
    c.retain_in_each-dropped.ensures.dropped ∙ ap held_count c.deref_mut.ensures.value in
    rw (whole, ← c.self.view_is) (number_dropped old new c.frontiers-frontiers.result c.retain_in_each-dropped.result
    c.self.invariant set retained counted)
