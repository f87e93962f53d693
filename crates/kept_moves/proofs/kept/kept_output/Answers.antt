use Rattle.std.proofs.Common.{ap}
use Rattle.master_core.specs.declared.step.Stepped.TheVariants as stepped
use Rattle.kept_moves.proofs.FrameValues.{output_is, output_frame_is}
use Rattle.kept_moves.proofs.kept.kept_output.Goals as goal

pub returns-clause-shown : goal.returns-clause-shown
returns-clause-shown c =
    ap stepped.Emitted (output_is c.args.epoch c.args.threads c.args.output c.in_ok-put_output.field-0
    c.in_ok-put_output.ensures.frame)

pub returns-clause-frame : goal.returns-clause-frame
returns-clause-frame c =
    output_frame_is c.args.epoch c.args.threads c.args.output c.in_ok-put_output.field-0
    c.in_ok-put_output.ensures.frame c.requires.can c.in_ok-put_output.ensures.size c.in_ok-put_output.ensures.small
    c.len-captured.result c.len-captured.ensures
