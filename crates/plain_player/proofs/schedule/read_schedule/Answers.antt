use Rattle.std.proofs.Common.{rules, ◌≡◌, ◌∷◌, ◌++◌, [], arith, refl}
use Rattle.plain_text.specs.declared.limit.TheConstants.{MOST_EVENTS}
use Rattle.plain_text.proofs.WholeFiles.{count_is_length, faulty, more, passes}
use Rattle.plain_player.specs.Schedules.{schedule_form}
use Rattle.plain_player.proofs.OneMove.{moves_are_decisive}
use Rattle.plain_player.proofs.schedule.read_schedule.Goals as goal

pub returns-in-Err-clause-refused : goal.returns-in-Err-clause-refused
returns-in-Err-clause-refused c =
    faulty schedule_form moves_are_decisive MOST_EVENTS c.args.text.now c.loop-line.moves c.loop-line.room
    c.in-Some.line.number c.in-Some.line.bytes.now c.loop-line.line-iterator c.next.new.self c.in-Err.cause
    c.loop-line.invariant.begins c.loop-line.invariant.room (search rules) c.in-Err.ensures.fault

pub returns-then-room-eq0-clause-refused : goal.returns-then-room-eq0-clause-refused
returns-then-room-eq0-clause-refused c =
    passes schedule_form MOST_EVENTS c.args.text.now c.loop-line.moves c.loop-line.room c.in-Some.line.number
    c.in-Some.line.bytes.now c.loop-line.line-iterator c.next.new.self c.in-Ok.plain c.loop-line.invariant.begins
    c.loop-line.invariant.room (search rules) c.in-Ok.ensures.says (omega (arith, c.if-room-eq0.true))

pub loop-line-preserved : goal.loop-line-preserved
loop-line-preserved c =
    let longer = more schedule_form c.args.text.now c.loop-line.moves c.push.new.self c.in-Some.line.number
    c.in-Some.line.bytes.now c.loop-line.line-iterator c.next.new.self c.in-Ok.plain c.loop-line.invariant.begins
    (search rules) c.in-Ok.ensures.says c.in_ok-push.ensures.ok in
    let count = longer.1 in
    record {
      begins = longer.0;
      room = omega (arith, count, c.if-room-eq0.false, c.loop-line.invariant.room);
    }

-- each move counts as one
pub returns-clause-few : goal.returns-clause-few
returns-clause-few c =
    let long = count_is_length schedule_form (λ plain. refl) c.loop-line.moves in
    omega (arith, long, c.loop-line.invariant.room)
