use Rattle.std.proofs.Common.{ℕ, ◌+◌, ◌*◌, ◌<◌}
use Rattle.release_taps.specs.Split.{IsAlone}
use Rattle.release_taps.proofs.split.are_alone.Given as goal

abbrev pub invariant-loop-pair : goal.invariant-loop-pair
invariant-loop-pair l = (k : ℕ) → k < l.pair → IsAlone l.words (2 * k + 1)
