use Rattle.std.proofs.Common.{ℕ, ◌+◌, ◌*◌, ◌∙◌, ap, sym}
use Rattle.wire_frames.specs.declared.frame.Frame.TheVariants as frame
use Rattle.wire_frames.proofs.Whole.{written_size}
use Rattle.wire_frames.proofs.writing.entry_length.Goals as goal

pub returns-clause-written : goal.returns-clause-written
returns-clause-written c epoch threads =
    written_size (frame.Entry epoch threads c.args.entry.now)
    ∙ ap (λ (n : ℕ). 39 + 8 * n) (sym c.count_nonzero.ensures.value)
