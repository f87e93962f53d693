use Rattle.std.proofs.Common.{ℕ, ◌<◌, ◌≤◌, slice_index}
use Rattle.thread_clock.proofs.stamp.Stamp.at_most.Given as goal

abbrev pub invariant-loop-i : goal.invariant-loop-i
invariant-loop-i l =
    (u : ℕ) → u < l.i → slice_index l.self-inside.components u ≤ slice_index l.bounds u
