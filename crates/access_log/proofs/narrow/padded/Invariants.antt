use Rattle.std.proofs.Common.{◌≡◌, ℕ, ◌≤◌, ◌<◌, length, slice_index}
use Rattle.access_log.proofs.narrow.padded.Given as goal

abbrev pub invariant-loop-i : goal.invariant-loop-i
invariant-loop-i l = record {
  all : length l.all ≡ 16;
  copied : (k : ℕ) → k < l.i → slice_index l.all k ≡ slice_index l.components k;
  zeros : (k : ℕ) → l.i ≤ k → slice_index l.all k ≡ 0;
}
