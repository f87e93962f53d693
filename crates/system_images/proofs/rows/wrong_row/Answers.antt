use Rattle.std.proofs.Common.{◌≡◌, ◌+◌, ◌-◌, ◌*◌, ◌<◌, ◌≤◌, length, ap, sym, ◌∙◌, arith, inl, inr, Some, drop}
use Rattle.std.specs.Prelude.{slice_index_or}
use Rattle.handover.specs.declared.image.Ended.{Ended}
use Rattle.handover_world.specs.Faults.{wrong_row}
use Rattle.system_images.proofs.RowsLemmas.{missing_row, right_here, wrong_here}
use Rattle.system_images.proofs.rows.wrong_row.Goals as goal
use Rattle.system_images.proofs.rows.wrong_row.Goals.{then-before-expected-via-then-before-expected}
use Rattle.system_images.proofs.rows.wrong_row.Goals.{then-before-expected-via-else-before-expected+then-not-is_row}

-- a row for a place that is not there
abbrev no_row : Ended
no_row = record { epoch = 0; thread = 0; entries = 0; outputs = 0 }

pub returns-then-before-expected : goal.returns-then-before-expected
returns-then-before-expected c =
    let same = c.as_slice-row-items.ensures in
    let long = ap length same in
    let low = c.loop-index-test.true in
    let whole = ap (λ n. n * c.from-2.result) c.from.ensures
    ∙ ap (λ n. (c.args.epoch - 1) * n) c.from-2.ensures in
    let row = slice_index_or c.as_slice-row-items.result.now c.loop-index.index no_row in
    let is = ap (λ l. slice_index_or l c.loop-index.index no_row) same in
    let less : c.loop-index.index < length c.args.rows.now = omega (arith, low, long) in
    sym (elim c.then-before-expected.branch as
    (λ _. wrong_row c.args.threads c.loop-index.index (c.from.result * c.from-2.result - c.loop-index.index)
    (drop c.loop-index.index c.args.rows.now) ≡ Some (c.loop-index.index + 1)) [
      | then-before-expected-via-then-before-expected w ↦
          wrong_here c.args.threads (c.from.result * c.from-2.result) c.loop-index.index c.args.rows.now row no_row less
          is (inl w.if-before-expected.true)
      | then-before-expected-via-else-before-expected+then-not-is_row w ↦
          wrong_here c.args.threads (c.from.result * c.from-2.result) c.loop-index.index c.args.rows.now row no_row less
          is (inr (sym w.is_row.ensures ∙ w.if-not-is_row.true))
    ])
    ∙ (c.loop-index.invariant.rest ∙ ap (λ n. wrong_row c.args.threads 0 n c.args.rows.now) whole)

pub loop-index-preserved : goal.loop-index-preserved
loop-index-preserved c =
    let same = c.as_slice-row-items.ensures in
    let long = ap length same in
    let low = c.loop-index-test.true in
    let few = c.if-before-expected.false in
    record {
      small = c.loop-index.invariant.small;
      few = omega (arith, few);
      rest =
          sym (right_here c.args.threads (c.from.result * c.from-2.result) c.loop-index.index c.args.rows.now
          (slice_index_or c.as_slice-row-items.result.now c.loop-index.index no_row) no_row
          (omega (arith, low, long)) (ap (λ l. slice_index_or l c.loop-index.index no_row) same) few
          (sym c.is_row.ensures ∙ c.if-not-is_row.false))
          ∙ c.loop-index.invariant.rest;
    }

pub returns-then-there-expected : goal.returns-then-there-expected
returns-then-there-expected c =
    let long = ap length c.as_slice-row-items.ensures in
    let all = c.loop-index-test.false in
    let few = c.loop-index.auto.index-end in
    let there = c.len-there.ensures in
    let low = c.if-there-expected.true in
    let end : c.loop-index.index ≡ c.len-there.result = omega (arith, long, all, few, there) in
    let whole = ap (λ n. n * c.from-2.result) c.from.ensures
    ∙ ap (λ n. (c.args.epoch - 1) * n) c.from-2.ensures in
    ap (λ n. Some (n + 1)) (sym end)
    ∙ (sym (missing_row c.args.threads (c.from.result * c.from-2.result) c.loop-index.index c.args.rows.now
    (omega (arith, long, all)) (omega (arith, low, end)))
    ∙ (c.loop-index.invariant.rest ∙ ap (λ n. wrong_row c.args.threads 0 n c.args.rows.now) whole))
