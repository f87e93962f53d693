use Rattle.std.proofs.Common.{◌≡◌, slice_get}
use Rattle.release_taps.proofs.Counting.{below_next}
use Rattle.release_taps.proofs.split.is_alone.Goals as goal
use Rattle.release_taps.proofs.split.is_alone.Goals.{else-other-place-via-then-other-place+else-are_equal}
use Rattle.release_taps.proofs.split.is_alone.Goals.{else-other-place-via-else-other-place}

pub loop-other-preserved : goal.loop-other-preserved
loop-other-preserved c =
    below_next (λ j. ¬ (j ≡ c.args.place) → ¬ (slice_get c.args.words.now j ≡ slice_get c.args.words.now c.args.place))
    c.loop-other.other c.loop-other.invariant
    (λ apart e. elim c.else-other-place.branch [
      | else-other-place-via-then-other-place+else-are_equal w ↦
          let true = w.are_equal.ensures.1 e in let false = w.if-are_equal.false in absurd (cc)
      | else-other-place-via-else-other-place w ↦ absurd (apart w.if-other-place.false)
    ])
