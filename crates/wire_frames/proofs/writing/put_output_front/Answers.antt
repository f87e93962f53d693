use Rattle.std.proofs.lemmas.Result.{on_ok_weaker}
use Rattle.wire_frames.proofs.Written.{output_begun}
use Rattle.wire_frames.proofs.writing.put_output_front.Goals as goal

pub returns-clause-spelled : goal.returns-clause-spelled
returns-clause-spelled c =
    let a = c.args in
    on_ok_weaker c.put_kind.result
    (λ last.
    output_begun a.size a.epoch a.threads a.frame.now c.put_mask.new.frame c.put_subject.new.frame c.put_kind.new.frame
    a.output.now c.in_ok-put_mask.ensures c.in_ok-put_subject.ensures last) c.put_kind.ensures
