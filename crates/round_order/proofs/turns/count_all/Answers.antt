use Rattle.round_order.proofs.TurnSteps.{count_step}
use Rattle.round_order.proofs.turns.count_all.Goals as goal

pub loop-thread-preserved : goal.loop-thread-preserved
loop-thread-preserved c =
    rw (c.in_ok-push.ensures.items, c.len.ensures)
    (count_step c.args.marks.now c.loop-thread.thread c.loop-thread.counts.items c.index-marks-thread.result
    c.loop-thread-test.true c.index-marks-thread.is c.loop-thread.invariant)
