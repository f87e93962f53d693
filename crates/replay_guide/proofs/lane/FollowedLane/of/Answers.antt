use Rattle.std.proofs.Common.{◌≡◌, ◌+◌, ◌-◌, Some, None, refl, sym, arith}
use Rattle.access_log.specs.Held.{lane, entry_at}
use Rattle.master_core.proofs.Holdings.{covered_within}
use Rattle.replay_guide.proofs.LaneLists.{no_entry_past, one_down, all_covered, walked_lane, at_low}
use Rattle.replay_guide.proofs.IndexLemmas.{index_before, index_down_from, index_after}
use Rattle.replay_guide.proofs.lane.FollowedLane.of.Goals as goal

pub loop-entry-init : goal.loop-entry-init
loop-entry-init c =
    let held = c.args.followed.now in
    let t = c.args.thread in
    let f = c.frontier-number.result in
    let none = no_entry_past held t f in
    rw c.new-entries.ensures.items (record {
      known = λ k h. c.frontier-number.ensures.reached k h;
      covered = covered_within (lane held t) f c.frontier-number.ensures;
      same = λ k above. sym (none k c.requires.can c.frontier-number.ensures above);
      few = omega arith;
      indexed = index_before held t f _ _ (λ n above. none n c.requires.can c.frontier-number.ensures above)
          c.requires.indexed;
    })

pub loop-entry-preserved : goal.loop-entry-preserved
loop-entry-preserved c =
    let held = c.args.followed.now in
    let t = c.args.thread in
    let number = c.loop-entry.number in
    let e = c.in-Some.entry in
    let here : entry_at (lane held t) number ≡ Some e = sym c.in-Some.ensures.value in
    let above = c.in-Some.ensures.above refl in
    let one : number ≡ number - 1 + 1 = omega arith in
    let names = c.in-Some.ensures.named in
    let small = c.if-len-ge-LIMIT.false in
    let len = c.len.ensures in
    let ok = c.loop-entry.entries.ok.0 in
    rw c.in_ok-push_front.ensures.items (record {
      known = λ k h. c.loop-entry.invariant.known k (omega arith);
      covered = omega arith;
      same =
          one_down (lane held t) (number - 1) number c.loop-entry.entries.items e one here c.loop-entry.invariant.same;
      few = omega arith;
      indexed = index_down_from held t (number - 1) number _ _ _ _ e one here names.0 names.1
          c.loop-entry.invariant.indexed c.in_ok-add.ensures;
    })

pub returns-clause-lane : goal.returns-clause-lane
returns-clause-lane c =
    let held = c.args.followed.now in
    let t = c.args.thread in
    let number = c.loop-entry.number in
    let none : entry_at (lane held t) number ≡ None = sym c.in_default.ensures.value in
    let covered = all_covered (lane held t) number c.loop-entry.invariant.covered
    (c.loop-entry.invariant.known number (omega arith)) none in
    walked_lane (lane held t) number c.loop-entry.entries.items (c.is_held_set.ensures.rising t) covered
    c.loop-entry.invariant.same

pub returns-clause-indexed : goal.returns-clause-indexed
returns-clause-indexed c =
    let held = c.args.followed.now in
    let t = c.args.thread in
    let number = c.loop-entry.number in
    let none : entry_at (lane held t) number ≡ None = sym c.in_default.ensures.value in
    let covered = all_covered (lane held t) number c.loop-entry.invariant.covered
    (c.loop-entry.invariant.known number (omega arith)) none in
    index_after held t number _ _
    (λ n low. at_low (lane held t).covered (lane held t).entries n (c.is_held_set.ensures.rising t) (omega arith))
    c.loop-entry.invariant.indexed
