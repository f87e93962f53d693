use Rattle.std.proofs.Common.{◌≡◌, ◌*◌, refl, Some, arith, codes, slice_get}
use Rattle.release_taps.proofs.Counting.{below_next}
use Rattle.release_taps.proofs.split.count_pairs.Goals as goal

pub loop-pairs-preserved : goal.loop-pairs-preserved
loop-pairs-preserved c = (
  (let room = c.loop-pairs-test.true in omega (arith, room)),
  below_next (λ k. slice_get c.args.words.now (2 * k) ≡ Some (codes "tap")) c.loop-pairs.pairs c.loop-pairs.invariant.1
      (c.if-is_tap.ensures.0 refl),
)
