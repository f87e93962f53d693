use Rattle.std.proofs.Common.{◌∙◌, arith}
use Rattle.crash_recovery.proofs.RecoveryCounts.{counts_more}
use Rattle.crash_recovery.proofs.crashing.counts_of.Goals as goal

pub loop-thread-preserved : goal.loop-thread-preserved
loop-thread-preserved g c =
    let low = c.loop-thread-test.true in
    let all = c.requires in
    c.in_ok-push.ensures.ok
    ∙ counts_more c.args.master.now.threads c.loop-thread.thread c.loop-thread.counts c.counts.result
    (omega (arith, low, all)) c.loop-thread.invariant c.counts.ensures
