use Rattle.std.proofs.Common.{◌≡◌, ℕ, ◌<◌, slice_get}
use Rattle.release_taps.proofs.split.is_alone.Given as goal

abbrev pub invariant-loop-other : goal.invariant-loop-other
invariant-loop-other l =
    (j : ℕ) → j < l.other → ¬ (j ≡ l.place) → ¬ (slice_get l.words j ≡ slice_get l.words l.place)
