use Rattle.std.proofs.Common.{◌∙◌, ap}
use Rattle.system_end.proofs.EndingLemmas.{named_first, order_more, order_past, order_whole}
use Rattle.system_end.proofs.ending.followed_entries.Goals as goal
use Rattle.system_end.proofs.ending.followed_entries.Goals.{in-Some+in_ok-push, in_default}

pub loop-thread-init : goal.loop-thread-init
loop-thread-init c = c.in_ok-entries.ensures.items ∙ named_first c.args.guide.now

pub loop-thread-preserved : goal.loop-thread-preserved
loop-thread-preserved c =
    elim c.match-get.branch [
      | in-Some+in_ok-push w ↦ order_more _ _ c.loop-thread.thread-index _ w.in-Some.entry.now
          c.loop-thread.entries.items _ c.loop-thread-test.true w.in-Some.ensures.value c.loop-thread.invariant
          (ap (λ v. v.items) w.entries-is ∙ w.in_ok-push.ensures.items)
      | in_default w ↦ order_past _ _ c.loop-thread.thread-index _ c.loop-thread.entries.items _ c.loop-thread-test.true
          w.in_default.ensures.value c.loop-thread.invariant (ap (λ v. v.items) w.entries-is)
    ]

pub returns : goal.returns
returns c = order_whole _ _ _ c.loop-thread.thread-index _ c.as_slice-thread-items.ensures c.loop-thread-test.false
    c.in_ok-order.ensures.each c.in_ok-order.ensures.in_order c.loop-thread.invariant
