use Rattle.std.proofs.Common.{ℕ, ◌↔◌}
use Rattle.replay_guide.specs.Walks.{WeighsBelow, IsWeighed}
use Rattle.replay_guide.proofs.guide.Guide.order.Given as goal

abbrev pub invariant-loop-i : goal.invariant-loop-i
invariant-loop-i l = (weight t n : ℕ) → IsWeighed l.weighed.keys weight t n ↔ WeighsBelow l.self l.i weight t n
