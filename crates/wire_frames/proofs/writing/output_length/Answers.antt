use Rattle.std.proofs.Common.{◌≡◌, ℕ, ◌+◌, ◌*◌, ◌∙◌, length, arith}
use Rattle.wire_frames.specs.declared.frame.Frame.TheVariants as frame
use Rattle.wire_frames.specs.Layout.{nonzero}
use Rattle.wire_frames.proofs.Whole.{written_size}
use Rattle.wire_frames.proofs.writing.output_length.Goals as goal

same_sum : (a b n m : ℕ) → a ≡ n → b ≡ m → 47 + 8 * n + m ≡ 47 + 8 * a + b
same_sum a b n m first second = omega arith

pub returns-clause-written : goal.returns-clause-written
returns-clause-written c epoch threads =
    let o = c.args.output.now in
    written_size (frame.Output epoch threads o)
    ∙ same_sum c.count_nonzero.result c.len.result (length (nonzero o.stamp)) (length o.packet.bytes)
    c.count_nonzero.ensures.value c.len.ensures
