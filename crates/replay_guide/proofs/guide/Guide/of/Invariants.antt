use Rattle.std.proofs.Common.{◌≡◌, ℕ, ◌<◌, length}
use Rattle.access_log.specs.Held.{lane}
use Rattle.replay_guide.specs.Indexes.{IsIndexOf}
use Rattle.replay_guide.specs.Walks.{FollowsBelow}
use Rattle.replay_guide.proofs.guide.Guide.of.Given as goal

abbrev pub invariant-loop-thread : goal.invariant-loop-thread
invariant-loop-thread l = record {
  long : length l.lanes.items ≡ l.thread;
  same : (t : ℕ) → t < l.thread → lane l.lanes.items t ≡ lane l.followed t;
  indexed : IsIndexOf (FollowsBelow l.followed l.thread) l.index.touches.entries l.index.reads.keys;
}
