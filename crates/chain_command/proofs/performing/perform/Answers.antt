use Rattle.std.proofs.Common.{◌≡◌, rules, Ok, Err}
use Rattle.event_replies.specs.declared.reply.Stop.TheVariants as stop
use Rattle.chain_command.proofs.Comes.{Takes, replies, halts, came_short}
use Rattle.chain_command.proofs.performing.perform.Goals as goal

pub returns-in-Ok-clause-comes : goal.returns-in-Ok-clause-comes
returns-in-Ok-clause-comes g c =
    let took = c.take_released.ensures in
    replies g.P.Program.meaning g.Q.Program.meaning c.args.event.now c.take_released.result.middle
    c.take_released.result.released c.args.chain.now c.on.new.self c.take_released.new.self
    (record {
      rest = took.rest;
      middle_packets = took.middle_packets;
      released_packets = took.released_packets;
      stands = took.stands;
      first_program = took.first_program;
      second_program = took.second_program;
    }) c.in-Ok.reply c.in-Ok.ensures.on

pub returns-in-Ok-clause-short : goal.returns-in-Ok-clause-short
returns-in-Ok-clause-short g c = λ here.
    came_short g.P.Program.meaning g.Q.Program.meaning (g.P.Program.fits c.args.chain.now.first.parts.program)
    (g.Q.Program.fits c.args.chain.now.second.parts.program) c.args.event.now (Ok c.in-Ok.reply) _ _ c.args.chain.now
    c.take_released.new.self (g.met.P.Program.lawful c.args.chain.now.first.parts.program)
    (g.met.Q.Program.lawful c.args.chain.now.second.parts.program) (returns-in-Ok-clause-comes g c) here

pub returns-in-Err-Limit-clause-comes : goal.returns-in-Err-Limit-clause-comes
returns-in-Err-Limit-clause-comes g c =
    let took = c.take_released-in-Err-Limit.ensures in
    let stopped : c.on.result ≡ Err (stop.Limit c.in-Err-Limit.limit) = search rules in
    halts g.P.Program.meaning g.Q.Program.meaning c.args.event.now c.take_released-in-Err-Limit.result.middle
    c.take_released-in-Err-Limit.result.released c.args.chain.now c.on.new.self
    c.take_released-in-Err-Limit.new.self (record {
      rest = took.rest;
      middle_packets = took.middle_packets;
      released_packets = took.released_packets;
      stands = took.stands;
      first_program = took.first_program;
      second_program = took.second_program;
    }) c.in-Err-Limit.limit (c.on.ensures.limit c.in-Err-Limit.limit stopped)

pub returns-in-Err-Limit-clause-short : goal.returns-in-Err-Limit-clause-short
returns-in-Err-Limit-clause-short g c = λ here.
    came_short g.P.Program.meaning g.Q.Program.meaning (g.P.Program.fits c.args.chain.now.first.parts.program)
    (g.Q.Program.fits c.args.chain.now.second.parts.program) c.args.event.now (Err c.in-Err-Limit.limit) _ _
    c.args.chain.now c.take_released-in-Err-Limit.new.self
    (g.met.P.Program.lawful c.args.chain.now.first.parts.program)
    (g.met.Q.Program.lawful c.args.chain.now.second.parts.program) (returns-in-Err-Limit-clause-comes g c) here
