use Rattle.std.proofs.Common.{rules, arith}
use Rattle.hand_faults.proofs.Places.{first_there, next_there}
use Rattle.hand_faults.proofs.TextLines.{number_few}
use Rattle.hand_faults.proofs.place.line_at.Goals as goal

pub returns-then-left-eq0-clause-line : goal.returns-then-left-eq0-clause-line
returns-then-left-eq0-clause-line c =
    first_there c.args.text.now c.args.place c.loop-line.left c.loop-line.line-iterator c.next.new.self
    c.in-Some.line.number c.in-Some.line.bytes.now c.loop-line.invariant.same (search rules)
    (omega (arith, c.if-left-eq0.true))

pub returns-then-left-eq0-clause-bound : goal.returns-then-left-eq0-clause-bound
returns-then-left-eq0-clause-bound c =
    let at = first_there c.args.text.now c.args.place c.loop-line.left c.loop-line.line-iterator c.next.new.self
    c.in-Some.line.number c.in-Some.line.bytes.now c.loop-line.invariant.same (search rules)
    (omega (arith, c.if-left-eq0.true)) in
    number_few c.args.text.now c.args.place c.in-Some.line.number at.0 at.1

pub loop-line-preserved : goal.loop-line-preserved
loop-line-preserved c =
    let next = next_there c.args.text.now c.args.place c.loop-line.left c.loop-line.line-iterator c.next.new.self
    c.in-Some.line.number c.in-Some.line.bytes.now c.loop-line.invariant.there c.loop-line.invariant.same
    (search rules) (omega (arith, c.if-left-eq0.false)) in
    record { there = next.0; same = next.1 }
