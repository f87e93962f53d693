use Rattle.replay_guide.proofs.TurnLemmas.{guide_of}
use Rattle.replay_guide.proofs.guide.Guide.of.Goals as goal

pub invariant_of-result : goal.invariant_of-result
invariant_of-result c =
    guide_of c.args.followed.now c.loop-thread.lanes.items _ _ c.loop-thread.thread c.loop-thread-test.false
    c.loop-thread.auto.thread-end c.loop-thread.invariant.long c.loop-thread.invariant.same c.is_held_set.ensures
    c.requires c.loop-thread.invariant.indexed
