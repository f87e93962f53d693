use Rattle.std.proofs.Common.{◌+◌, ◌*◌, ◌^◌, ◌≤◌, refl, arith, rules, sym, ◌∙◌}
use Rattle.plain_text.proofs.Numbers.{too_large, value_more, digits_more, is_whole, not_below}
use Rattle.plain_text.proofs.number.read_u64.Goals as goal

pub returns-in_err-checked_mul : goal.returns-in_err-checked_mul
returns-in_err-checked_mul c =
    let more = value_more c.args.word.now c.loop-byte.byte-index _ (omega arith) refl (search rules) in
    let big : 2 ^ 64 ≤ c.loop-byte.number * 10 = not_below _ _ c.in_err-checked_mul.ensures in
    c.from_residual.ensures ∙ sym (too_large c.args.word.now (c.loop-byte.byte-index + 1) (omega arith))

pub returns-in_err-number : goal.returns-in_err-number
returns-in_err-number c =
    let more = value_more c.args.word.now c.loop-byte.byte-index _ (omega arith) refl (search rules) in
    let big = not_below _ _ c.in_err-number.ensures in
    c.from_residual-in_err-number.ensures ∙ sym (too_large c.args.word.now (c.loop-byte.byte-index + 1) (omega arith))

pub loop-byte-preserved : goal.loop-byte-preserved
loop-byte-preserved c =
    let more = value_more c.args.word.now c.loop-byte.byte-index _ (omega arith) refl (search rules) in
    record {
      digits =
          digits_more c.args.word.now c.loop-byte.byte-index (omega arith) c.loop-byte.invariant.digits (search rules);
      value = omega arith;
      fits = omega arith;
    }

pub returns : goal.returns
returns c = is_whole c.args.word.now c.loop-byte.number c.loop-byte.byte-index (search rules) (omega arith)
    (omega arith) c.loop-byte.invariant.digits c.loop-byte.invariant.value c.loop-byte.invariant.fits
