use Rattle.std.proofs.Common.{ℕ, ◌⊎◌, ◌↔◌}
use Rattle.replay_guide.specs.Walks.{IsWeighed}
use Rattle.replay_guide.proofs.OrderLemmas.{WeighsUpTo}
use Rattle.replay_guide.proofs.lane.FollowedLane.weigh.Given as goal

abbrev pub invariant-loop-i : goal.invariant-loop-i
invariant-loop-i l =
    (weight t n : ℕ)
    → IsWeighed l.weighed.keys weight t n
    ↔ (IsWeighed l.initial.weighed.keys weight t n ⊎ WeighsUpTo l.self-inside.entries.items l.i weight t n)
