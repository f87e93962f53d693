use Rattle.std.proofs.Common.{◌∙◌, sym, ap, subst, drop, length}
use Rattle.std.proofs.lemmas.List.{take_at}
use Rattle.release_taps.specs.Mirrored.{IsMirroring}
use Rattle.release_taps.specs.Seats.{AreShown, labels_of}
use Rattle.release_taps.proofs.Mirroring.{mirroring-put}
use Rattle.release_taps.proofs.tap_world.TapWorldWorld.put.Goals as goal

pub invariant_of-self-clause-mirrors : goal.invariant_of-self-clause-mirrors
invariant_of-self-clause-mirrors g c =
    let new = c.show_each.new.seats in
    let whole = take_at new (drop (length new) c.args.self.now.seats.items) c.args.self.now.seats.len
    (c.show_each.auto.seats ∙ c.deref_mut.ensures.len) in
    let of_these = subst (λ old. AreShown g.T.Tap.tells g.T.Tap.seen g.T.Tap.fault_count g.T.Tap.lack_count
    c.mirrored_piece-taken.result.now old new) c.deref_mut.ensures.value c.show_each.ensures.shown in
    let shown = subst (λ bytes. AreShown g.T.Tap.tells g.T.Tap.seen g.T.Tap.fault_count g.T.Tap.lack_count bytes
    c.args.self.now.seats.items new) c.mirrored_piece-taken.ensures of_these in
    subst (IsMirroring g.W.World.honest g.W.World.shows g.W.World.ledger g.T.Tap.tells g.T.Tap.seen g.T.Tap.fault_count
    g.T.Tap.lack_count c.args.self.now.name c.args.self.now.mirrored c.put-put.new.self) (sym whole)
    (mirroring-put _ _ _ _ _ _ _ _ _ _ _ c.put-put.ensures.before c.args.self.now.seats.items c.args.self.now.mirrors
    c.args.file _ new c.put-put.ensures.writes_on.ledger.created c.put-put.ensures.shows shown)

pub invariant_of-self-clause-same_count : goal.invariant_of-self-clause-same_count
invariant_of-self-clause-same_count g c =
    let new = c.show_each.new.seats in
    let whole = take_at new (drop (length new) c.args.self.now.seats.items) c.args.self.now.seats.len
    (c.show_each.auto.seats ∙ c.deref_mut.ensures.len) in
    ap length whole ∙ c.show_each.auto.seats ∙ ap length c.deref_mut.ensures.value ∙ c.args.self.now.same_count

pub invariant_of-self-clause-same_labels : goal.invariant_of-self-clause-same_labels
invariant_of-self-clause-same_labels g c =
    let new = c.show_each.new.seats in
    let whole = take_at new (drop (length new) c.args.self.now.seats.items) c.args.self.now.seats.len
    (c.show_each.auto.seats ∙ c.deref_mut.ensures.len) in
    ap (labels_of g.T.Tap.label) whole ∙ c.show_each.ensures.same_labels
    ∙ ap (labels_of g.T.Tap.label) c.deref_mut.ensures.value ∙ c.args.self.now.same_labels
