use Rattle.std.proofs.Common.{◌≡◌, ℕ, ◌≤◌, ◌<◌, ◌↔◌, IsTrue, slice_index}
use Rattle.access_log.proofs.narrow.is_zero_from.Given as goal

abbrev pub invariant-loop-i : goal.invariant-loop-i
invariant-loop-i l = IsTrue l.zero ↔ ((k : ℕ) → l.first ≤ k → k < l.i → slice_index l.stamp k ≡ 0)
