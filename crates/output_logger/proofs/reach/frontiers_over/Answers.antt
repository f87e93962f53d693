use Rattle.std.proofs.Common.{◌≢◌, ◌<◌, length, slice_index, slice_set, length-set, below_more, arith}
use Rattle.std.proofs.lemmas.List.{get_or-set_same, get_or-set_other}
use Rattle.access_log.specs.Held.{Lane, lane, IsFrontier}
use Rattle.access_log.specs.Lanes.{CoversUpTo}
use Rattle.output_logger.proofs.ReachLemmas.{frontiers_over_all}
use Rattle.output_logger.proofs.reach.frontiers_over.Goals as goal

pub loop-thread-preserved : goal.loop-thread-preserved
loop-thread-preserved c =
    let s = c.loop-thread.components in
    let i = c.loop-thread.thread in
    let v = c.in_ok-components.field-0 in
    let all = c.loop-thread.invariant.all in
    let few = c.is_held_set.ensures.few in
    let within : i < length s = omega arith in
    record {
      all = omega (arith, length-set s i v);
      covered = below_more
          (λ t.
          (new : Lane) → CoversUpTo (lane c.args.held.now t) new (slice_index c.args.counts.now t)
          → IsFrontier new (slice_index (slice_set s i v) t)) i
          (λ t h new covers.
          let apart : t ≢ i = λ q. omega arith in
          rw (get_or-set_other s i t v 0 apart) (c.loop-thread.invariant.covered t h new covers))
          (λ new covers.
          rw (get_or-set_same s i v 0 within) (let g = c.get.ensures in c.in_ok-components.ensures new (rw g covers)));
      rest = λ t h.
          let apart : t ≢ i = λ q. omega arith in
          rw (get_or-set_other s i t v 0 apart) (c.loop-thread.invariant.rest t (omega arith));
    }

pub returns : goal.returns
returns c = λ new w. rw c.new.ensures (frontiers_over_all c.args.held.now new c.loop-thread.components c.args.counts.now
    c.args.threads c.requires.all (λ t h l covers. c.loop-thread.invariant.covered t (omega arith) l covers)
    (λ t h. c.loop-thread.invariant.rest t (omega arith)) w)
