use Rattle.std.proofs.Common.{rules, ◌≡◌, ◌∷◌, ◌++◌, [], arith}
use Rattle.plain_text.proofs.WholeFiles.{faulty, more, passes}
use Rattle.plain_text.proofs.line_file.read_lines.Goals as goal

pub returns-in-Err-clause-refused : goal.returns-in-Err-clause-refused
returns-in-Err-clause-refused g c =
    faulty g.F.LineFile.form c.requires.decisive c.args.most c.args.text.now c.loop-line.things c.loop-line.room
    c.in-Some.line.number c.in-Some.line.bytes.now c.loop-line.line-iterator c.next.new.self c.in-Err.cause
    c.loop-line.invariant.begins c.loop-line.invariant.room (search rules) c.in-Err.ensures.fault

pub returns-then-weight-room-clause-refused : goal.returns-then-weight-room-clause-refused
returns-then-weight-room-clause-refused g c =
    passes g.F.LineFile.form c.args.most c.args.text.now c.loop-line.things c.loop-line.room
    c.in-Some.line.number c.in-Some.line.bytes.now c.loop-line.line-iterator c.next.new.self c.in-Ok.thing
    c.loop-line.invariant.begins c.loop-line.invariant.room (search rules) c.in-Ok.ensures.says
    (omega (arith, c.weight-weight.ensures, c.if-weight-room.true))

pub loop-line-preserved : goal.loop-line-preserved
loop-line-preserved g c =
    let pushed : c.push.new.self ≡ c.loop-line.things ++ c.in-Ok.thing ∷ [] = search rules in
    let longer = more g.F.LineFile.form c.args.text.now c.loop-line.things c.push.new.self
    c.in-Some.line.number c.in-Some.line.bytes.now c.loop-line.line-iterator c.next.new.self c.in-Ok.thing
    c.loop-line.invariant.begins (search rules) c.in-Ok.ensures.says pushed in
    let count = longer.1 in
    record {
      begins = longer.0;
      room = omega (arith, count, c.weight-weight.ensures, c.if-weight-room.false, c.loop-line.invariant.room);
    }
