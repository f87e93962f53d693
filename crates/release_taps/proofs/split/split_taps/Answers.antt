use Rattle.std.proofs.Common.{◌*◌, drop, sym, subst, arith}
use Rattle.release_taps.specs.Split.{IsRunLine}
use Rattle.release_taps.proofs.Counting.{Counts, behind_is, counted}
use Rattle.release_taps.proofs.split.split_taps.Goals as goal
use Rattle.release_taps.proofs.split.split_taps.Goals.{then-pairs-eq0-via-then-pairs-eq0}
use Rattle.release_taps.proofs.split.split_taps.Goals.{then-pairs-eq0-via-else-pairs-eq0+then-pairs-gt-MOST_TAPS}
use Rattle.release_taps.proofs.split.split_taps.Goals.{then-pairs-eq0-via-else-pairs-eq0+else-pairs-gt-MOST_TAPS+then-not-is_run_line}

pub returns-then-pairs-eq0 : goal.returns-then-pairs-eq0
returns-then-pairs-eq0 c = (
  c.is_tap.ensures.0 c.if-not-is_tap.false,
  (λ asked asks.
      let pairs = c.count_pairs-pairs.result in
      let counts : Counts c.args.words.now pairs =
      record { taps = c.count_pairs-pairs.ensures.taps; last = c.count_pairs-pairs.ensures.last } in
      let same = counted c.args.words.now pairs asked counts asks in
      let some = asks.some in
      let most = asks.most in
      elim c.then-pairs-eq0.branch [
        | then-pairs-eq0-via-then-pairs-eq0 w ↦ let none = w.if-pairs-eq0.true in omega (arith, same, some, none)
        | then-pairs-eq0-via-else-pairs-eq0+then-pairs-gt-MOST_TAPS w ↦
            let many = w.if-pairs-gt-MOST_TAPS.true in omega (arith, same, most, many)
        | then-pairs-eq0-via-else-pairs-eq0+else-pairs-gt-MOST_TAPS+then-not-is_run_line w ↦
            let run = subst (λ n. IsRunLine (drop (2 * n) c.args.words.now)) same asks.run in
            let true = w.is_run_line.ensures.1 (subst IsRunLine (sym (behind_is (2 * pairs) c.args.words.now)) run) in
            let false = w.if-not-is_run_line.true in absurd (cc)
      ]),
)

pub returns-then-not-are_alone : goal.returns-then-not-are_alone
returns-then-not-are_alone c = (
  c.is_tap.ensures.0 c.if-not-is_tap.false,
  (λ asked asks.
      let pairs = c.count_pairs-pairs.result in
      let counts : Counts c.args.words.now pairs =
      record { taps = c.count_pairs-pairs.ensures.taps; last = c.count_pairs-pairs.ensures.last } in
      let same = counted c.args.words.now pairs asked counts asks in
      let true = c.are_alone.ensures.1 (λ k within. asks.alone k (omega (arith, within, same))) in
      let false = c.if-not-are_alone.true in absurd (cc)),
)
