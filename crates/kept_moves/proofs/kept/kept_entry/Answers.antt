use Rattle.std.proofs.Common.{ap}
use Rattle.master_core.specs.declared.step.Stepped.TheVariants as stepped
use Rattle.kept_moves.proofs.FrameValues.{entry_is, entry_frame_is}
use Rattle.kept_moves.proofs.kept.kept_entry.Goals as goal

pub returns-clause-shown : goal.returns-clause-shown
returns-clause-shown c =
    ap stepped.Did (entry_is c.args.epoch c.args.threads c.args.entry.now c.in_ok-put_entry.field-0
    c.in_ok-put_entry.ensures.frame)

pub returns-clause-frame : goal.returns-clause-frame
returns-clause-frame c =
    entry_frame_is c.args.epoch c.args.threads c.args.entry.now c.in_ok-put_entry.field-0
    c.in_ok-put_entry.ensures.frame c.requires.can c.in_ok-put_entry.ensures.size c.in_ok-put_entry.ensures.small
