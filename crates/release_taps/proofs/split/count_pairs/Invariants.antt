use Rattle.std.proofs.Common.{◌≡◌, ℕ, ◌*◌, ◌-◌, ◌<◌, ◌≤◌, Some, codes, length, slice_get}
use Rattle.release_taps.proofs.split.count_pairs.Given as goal

abbrev pub invariant-loop-pairs : goal.invariant-loop-pairs
invariant-loop-pairs l =
    (2 * l.pairs ≤ length l.words)
    × ((k : ℕ) → k < l.pairs → slice_get l.words (2 * k) ≡ Some (codes "tap"))

abbrev pub decreases-loop-pairs : goal.decreases-loop-pairs
decreases-loop-pairs l = length l.words - l.pairs
