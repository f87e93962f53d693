use Rattle.std.proofs.Common.{rules}
use Rattle.live_command.proofs.AllMessages.{threads_more}
use Rattle.recovery_world.specs.Events.{count_of, ended_now}
use Rattle.live_command.proofs.settling.add_kind.Goals as goal

pub loop-thread-preserved : goal.loop-thread-preserved
loop-thread-preserved g c s w stands =
    threads_more c.args.kind (count_of c.args.kind (ended_now w)) c.loop-thread.thread _ c.args.frames.now.items _ _
    (c.count-count.ensures s w stands) (c.loop-thread.invariant s w stands)
    (search rules)
