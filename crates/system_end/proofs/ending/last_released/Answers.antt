use Rattle.system_end.proofs.EndingLemmas.{last_more}
use Rattle.system_end.proofs.ending.last_released.Goals as goal

pub loop-thread-preserved : goal.loop-thread-preserved
loop-thread-preserved c =
    let k = last_more _ c.loop-thread.thread c.greatest.result c.loop-thread.last.items _ c.loop-thread.invariant.long
    c.loop-thread.invariant.are c.greatest.ensures c.in_ok-push.ensures.items in
    record { long = k.0; are = k.1 }
