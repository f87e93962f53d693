use Rattle.std.proofs.Common.{◌≡◌, ℕ, ◌<◌, length, slice_index}
use Rattle.access_log.proofs.narrow.first_components.Given as goal

abbrev pub invariant-loop-i : goal.invariant-loop-i
invariant-loop-i g l = record {
  all : length l.components ≡ g.row.N;
  each : (k : ℕ) → k < l.i → slice_index l.components k ≡ slice_index l.stamp k;
}
