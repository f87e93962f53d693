use Rattle.std.proofs.lemmas.Result.{IfOk-weaker}
use Rattle.chain_box.proofs.ChainLemmas.{second_moves, second_halts, goes_on_after, is_second}
use Rattle.chain_box.proofs.passing.perform.Goals as goal

pub returns-else-event-eq1-clause-on : goal.returns-else-event-eq1-clause-on
returns-else-event-eq1-clause-on g c =
    let two = is_second c.args.event.now.which c.requires.which c.if-event-eq1.false in
    IfOk-weaker c.on.result _ _
    (λ reply moves. second_moves (g.P.Program.meaning c.args.first.now.parts.program)
    (g.Q.Program.meaning c.args.second.now.parts.program) c.args.event.now reply c.args.first.now c.args.second.now
    c.on.new.self two moves) c.on.ensures.on

pub returns-else-event-eq1-clause-goes_on : goal.returns-else-event-eq1-clause-goes_on
returns-else-event-eq1-clause-goes_on g c =
    let two = is_second c.args.event.now.which c.requires.which c.if-event-eq1.false in
    goes_on_after g.P.Program.meaning g.Q.Program.meaning c.args.event.now c.on.result c.args.first.now
    c.args.second.now c.on.new.self two c.on.ensures.on c.on.ensures.goes_on c.requires.going

pub returns-else-event-eq1-clause-limit : goal.returns-else-event-eq1-clause-limit
returns-else-event-eq1-clause-limit g c = λ limit is.
    let two = is_second c.args.event.now.which c.requires.which c.if-event-eq1.false in
    second_halts (g.P.Program.meaning c.args.first.now.parts.program)
    (g.Q.Program.meaning c.args.second.now.parts.program) c.args.event.now limit c.args.first.now c.args.second.now
    c.on.new.self two (c.on.ensures.limit limit is)
