use Rattle.std.proofs.Common.{◌≡◌, ◌≤◌, ◌<◌, ℕ, slice_index}
use Rattle.kept_moves.proofs.checks.has_none_from.Given as goal

abbrev pub invariant-loop-thread : goal.invariant-loop-thread
invariant-loop-thread l = (u : ℕ) → l.threads ≤ u → u < l.thread → slice_index l.components u ≡ 0
