use Rattle.std.proofs.Common.{drop, length, ◌≡◌, ◌∙◌, ap}
use Rattle.std.proofs.lemmas.List.{take_at}
use Rattle.access_log.proofs.MemberLemmas.{number_above}
use Rattle.access_log.proofs.held.Held.cover.Goals as goal

pub returns-clause-counted : goal.returns-clause-counted
returns-clause-counted c =
    let old = c.self.inside.lanes.items in
    let new = c.cover_each.new.lanes in
    let len : length new ≡ length old = c.cover_each.auto.lanes ∙ ap length c.deref_mut.ensures.value in
    let whole =
    take_at new (drop (length new) old) c.self.inside.lanes.len (c.cover_each.auto.lanes ∙ c.deref_mut.ensures.len) in
    rw (whole, ← c.self.view_is) (number_above old new c.args.counts.now c.self.invariant len
    (rw (← c.deref_mut.ensures.value) c.cover_each.ensures.covers)
    (rw (← c.deref_mut.ensures.value) c.cover_each.ensures.rising))
