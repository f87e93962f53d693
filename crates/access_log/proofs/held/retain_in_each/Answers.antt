use Rattle.std.proofs.Common.{arith, sym, ap, subst, length, below_more, ◌≡◌, ◌∙◌, ◌≤◌, ◌<◌, ◌≢◌, slice_set}
use Rattle.std.proofs.lemmas.List.{get_or_read}
use Rattle.access_log.specs.Held.{Lane, lane, fresh_lane, IsRising}
use Rattle.access_log.specs.Lanes.{RetainsAtMost}
use Rattle.access_log.proofs.LaneLemmas.{lane-slice_set, lane-slice_set_other, held_count-slice_set, RetainsAtMost-all}
use Rattle.access_log.proofs.held.retain_in_each.Goals as goal

pub loop-i-preserved : goal.loop-i-preserved
loop-i-preserved c =
    let lanes = c.loop-i.lanes in
    let i = c.loop-i.i in
    let after = c.retain_at_most.new.self in
    let within : i < length lanes = omega arith in
    let same = lane-slice_set lanes i after within in
    let read = sym c.index-lanes-i.is ∙ get_or_read lanes i _ within c.index-lanes-i.is fresh_lane in
    let first = c.loop-i.invariant.ahead i (omega arith) in
    let retained =
    subst (λ (l : Lane). RetainsAtMost l after c.args.frontiers.now) read c.retain_at_most.ensures.retained in
    let held : c.len-held.result ≡ length (lane lanes i).entries =
    c.len-held.ensures.len ∙ ap (λ (l : Lane). length l.entries) read in
    let fewer = subst (λ (l : Lane). length after.entries ≤ length l.entries) read c.retain_at_most.ensures.fewer in
    let left : c.len.result ≡ length after.entries = c.len.ensures.len in
    let counted = held_count-slice_set lanes i after within in
    record {
      retained = below_more
          (λ t. RetainsAtMost (lane c.args.lanes.now t) (lane (slice_set lanes i after) t) c.args.frontiers.now) i
          (λ t h.
          let apart : t ≢ i = λ e. omega arith in
          rw (lane-slice_set_other lanes i after t apart) (c.loop-i.invariant.retained t h))
          (rw (same, ← first) retained);
      rising = below_more
          (λ t. IsRising (lane (slice_set lanes i after) t).covered (lane (slice_set lanes i after) t).entries) i
          (λ t h.
          let apart : t ≢ i = λ e. omega arith in
          rw (lane-slice_set_other lanes i after t apart) (c.loop-i.invariant.rising t h))
          (rw same c.retain_at_most.ensures.rising);
      ahead = λ t h.
          let apart : t ≢ i = λ e. omega arith in
          rw (lane-slice_set_other lanes i after t apart) (c.loop-i.invariant.ahead t (omega arith));
      dropped = omega arith;
      small = omega arith;
    }

pub returns-clause-retained : goal.returns-clause-retained
returns-clause-retained c =
    RetainsAtMost-all _ _ _ c.loop-i.i c.loop-i-test.false c.loop-i.auto.lanes c.loop-i.invariant.retained
