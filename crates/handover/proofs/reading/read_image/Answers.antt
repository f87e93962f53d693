use Rattle.std.proofs.Common.{rules, ℕ, ◌+◌, arith, sym, ap, ◌∙◌}
use Rattle.handover.proofs.WholeImages.{read_more, refused_behind, refused_many, refused_there}
use Rattle.handover.proofs.reading.read_image.Goals as goal

pub returns-in-Err-clause-refused : goal.returns-in-Err-clause-refused
returns-in-Err-clause-refused c =
    refused_there c.args.text.now c.loop-line.stage c.loop-line.image c.loop-line.room c.in-Some.line.number
    c.in-Some.line.bytes.now c.loop-line.line-iterator c.next.new.self c.in-Err.cause c.loop-line.invariant.read
    c.loop-line.invariant.room (search rules) c.in-Err.ensures.fault

pub returns-then-room-eq0-clause-refused : goal.returns-then-room-eq0-clause-refused
returns-then-room-eq0-clause-refused c =
    refused_many c.args.text.now c.loop-line.stage c.loop-line.image c.loop-line.room c.in-Some.line.number
    c.in-Some.line.bytes.now c.in-Ok.said c.loop-line.line-iterator c.next.new.self c.loop-line.invariant.read
    c.loop-line.invariant.room (omega (arith, c.if-room-eq0.true)) (search rules) c.in-Ok.ensures.says

pub loop-line-preserved : goal.loop-line-preserved
loop-line-preserved c =
    let longer = read_more c.args.text.now c.loop-line.stage c.behind-stage.result c.loop-line.image c.add.new.self
    c.in-Some.line.number c.in-Some.line.bytes.now c.in-Ok.said c.loop-line.line-iterator c.next.new.self
    c.loop-line.invariant.read (search rules) c.in-Ok.ensures.says c.behind-stage.ensures c.in_ok-add.ensures in
    let count = longer.1 in
    record {
      read = longer.0;
      room = omega (arith, count, c.if-room-eq0.false, c.loop-line.invariant.room);
    }

pub returns-clause-refused : goal.returns-clause-refused
returns-clause-refused c =
    refused_behind c.args.text.now c.loop-line.stage c.loop-line.image c.loop-line.room (c.count_lines-line.result + 1)
    c.loop-line.line-iterator c.loop-line.invariant.read c.loop-line.invariant.room c.in-None.ensures.steps.0
    (sym c.is_whole.ensures ∙ c.if-is_whole.false) (ap (λ (n : ℕ). n + 1) c.count_lines-line.ensures.count)
