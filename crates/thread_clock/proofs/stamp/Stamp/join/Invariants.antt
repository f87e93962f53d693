use Rattle.std.proofs.Common.{◌≡◌, ℕ, ◌<◌, ◌≤◌, length, max, slice_index}
use Rattle.thread_clock.proofs.stamp.Stamp.join.Given as goal

abbrev pub invariant-loop-i : goal.invariant-loop-i
invariant-loop-i l = record {
  all : length l.self-inside.components ≡ 16;
  joined : (u : ℕ) → u < l.i
      → slice_index l.self-inside.components u
      ≡ max (slice_index l.initial.self-inside.components u) (slice_index l.other-inside.components u);
  ahead : (u : ℕ) → l.i ≤ u → slice_index l.self-inside.components u ≡ slice_index l.initial.self-inside.components u;
}
