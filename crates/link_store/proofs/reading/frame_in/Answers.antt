use Rattle.std.proofs.Common.{Some, Err, length, ap, ◌∙◌}
use Rattle.wire_frames.proofs.Whole.{begins_whole}
use Rattle.link_store.proofs.KeptLemmas.{gives_no_fault}
use Rattle.link_store.proofs.reading.frame_in.Goals as goal

pub returns-in-Ok-clause-same : goal.returns-in-Ok-clause-same
returns-in-Ok-clause-same c f is =
    ap Some (c.in-Ok.ensures.every f (length c.args.bytes.now) (begins_whole c.args.bytes.now f is)).0

pub returns-in-Err-Fault-clause-same : goal.returns-in-Err-Fault-clause-same
returns-in-Err-Fault-clause-same c f is =
    absurd (gives_no_fault c.take_frame.result c.in-Err-Fault.field-0-0 f (length c.args.bytes.now)
    (c.in-Err-Fault.is ∙ ap Err c.in-Err-Fault.field-0-is)
    (c.take_frame.ensures.every f (length c.args.bytes.now) (begins_whole c.args.bytes.now f is)))
