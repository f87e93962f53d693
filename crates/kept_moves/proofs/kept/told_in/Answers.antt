use Rattle.std.proofs.Common.{Err, length, sym, ap, ◌∙◌}
use Rattle.std.proofs.lemmas.Result.{IfOk-weaker}
use Rattle.wire_frames.proofs.Whole.{begins_whole}
use Rattle.link_store.proofs.KeptLemmas.{gives_no_fault}
use Rattle.kept_moves.specs.Keeping.{shown_by}
use Rattle.kept_moves.proofs.kept.told_in.Goals as goal

pub unreachable-requires : goal.unreachable-requires
unreachable-requires c =
    let f = c.requires.0 in
    let begins = begins_whole c.args.bytes.now f c.requires.1 in
    gives_no_fault c.take_frame.result c.in-Err-Fault.field-0-0 f (length c.args.bytes.now)
    (c.in-Err-Fault.is ∙ ap Err c.in-Err-Fault.field-0-is)
    (c.take_frame.ensures.every f (length c.args.bytes.now) begins)

pub returns-in-Ok-Entry-default : goal.returns-in-Ok-Entry-default
returns-in-Ok-Entry-default c =
    IfOk-weaker c.did.result _ _
    (λ told told_is f is.
    let same = (c.in-Ok-Entry-default.ensures.every f (length c.args.bytes.now)
    (begins_whole c.args.bytes.now f is)).0 in
    told_is ∙ ap shown_by (sym c.in-Ok-Entry-default.field-0-0-is ∙ same)) c.did.ensures

pub returns-in-Ok-Output-default : goal.returns-in-Ok-Output-default
returns-in-Ok-Output-default c =
    IfOk-weaker c.emitted.result _ _
    (λ told told_is f is.
    let same = (c.in-Ok-Output-default.ensures.every f (length c.args.bytes.now)
    (begins_whole c.args.bytes.now f is)).0 in
    told_is ∙ ap shown_by (sym c.in-Ok-Output-default.field-0-0-is ∙ same)) c.emitted.ensures
