use Rattle.std.proofs.Common.{arith, ◌∙◌, ◌≡◌, ◌≢◌, ◌↔◌, Some, None, slice_index_or, below_more}
use Rattle.access_log.proofs.slots.empty_above.Goals as goal
use Rattle.thread_clock.specs.Clock.{AtMost}
use Rattle.access_log.specs.declared.entry.StampedEntry.{StampedEntry}
use Rattle.access_log.specs.Rows.{row_slots}
use Rattle.access_log.proofs.SlotLemmas.{RetainsSlots-all}

pub loop-i-preserved : goal.loop-i-preserved
loop-i-preserved c =
    let old = row_slots c.args.contiguous.now in
    let new = row_slots c.empty_if_above.new.contiguous in
    let i = c.loop-i.i in
    let first = c.loop-i.invariant.ahead i (omega arith) in
    record {
      slots = c.empty_if_above.ensures.slots ∙ c.loop-i.invariant.slots;
      held = λ k e h. below_more
          (λ k.
          (e : StampedEntry)
          → (slice_index_or new k None ≡ Some e)
          ↔ ((slice_index_or old k None ≡ Some e) × AtMost e.stamp c.args.frontiers.now)) i
          (λ k h e.
          let apart : k ≢ i = λ q. omega arith in
          rw (c.empty_if_above.ensures.others k apart) (c.loop-i.invariant.held k e h))
          (λ e. rw (← first) (c.empty_if_above.ensures.held e)) k h e;
      ahead = λ k h.
          let apart : k ≢ i = λ q. omega arith in
          c.empty_if_above.ensures.others k apart ∙ c.loop-i.invariant.ahead k (omega arith);
    }

pub returns : goal.returns
returns c =
    RetainsSlots-all (row_slots c.args.contiguous.now) (row_slots c.loop-i.contiguous) c.args.frontiers.now c.loop-i.i
    (omega (arith, c.loop-i-test.false, c.len-i-end.ensures)) c.loop-i.invariant.slots c.loop-i.invariant.held
