use Rattle.std.proofs.Common.{◌≡◌, ℕ, ◌<◌, ◌≤◌, ◌^◌, length}
use Rattle.access_log.specs.Held.{lane, entry_at, IsKnown}
use Rattle.access_log.proofs.SlotLemmas.{at}
use Rattle.replay_guide.specs.Indexes.{IsIndexOf}
use Rattle.replay_guide.specs.Walks.{FollowsDownTo, numbered}
use Rattle.replay_guide.proofs.lane.FollowedLane.of.Given as goal

abbrev pub invariant-loop-entry : goal.invariant-loop-entry
invariant-loop-entry l = record {
  known : (k : ℕ) → k ≤ l.number → IsKnown (lane l.followed l.thread) k;
  covered : (lane l.followed l.thread).covered ≤ l.number;
  same : (k : ℕ) → l.number < k → at (numbered l.number l.entries.items) k ≡ entry_at (lane l.followed l.thread) k;
  few : length l.entries.items ≤ 2 ^ 56;
  indexed : IsIndexOf (FollowsDownTo l.followed l.thread l.number) l.index.touches.entries l.index.reads.keys;
}

abbrev pub decreases-loop-entry : goal.decreases-loop-entry
decreases-loop-entry l = l.number
