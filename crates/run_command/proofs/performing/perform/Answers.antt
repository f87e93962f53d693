use Rattle.run_command.proofs.EventsPerformed.{comes_to, came_short}
use Rattle.run_command.proofs.performing.perform.Goals as goal

pub returns-clause-comes : goal.returns-clause-comes
returns-clause-comes g c =
    comes_to g.P.Program.meaning c.args.event.now c.on-reply.result c.take_released-outputs.result c.args.system.now
    c.on-reply.new.self c.take_released-outputs.new.self
    (record {
      on = c.on-reply.ensures.on;
      limit = c.on-reply.ensures.limit;
      no_memory = c.on-reply.ensures.no_memory;
    }) (record {
      taken = c.take_released-outputs.ensures.outputs;
      rest = c.take_released-outputs.ensures.rest;
      packets = c.take_released-outputs.ensures.packets;
      stands = c.take_released-outputs.ensures.stands;
    })

pub returns-clause-short : goal.returns-clause-short
returns-clause-short g c = λ s w at short.
    came_short (g.P.Program.meaning c.args.system.now.parts.program) (g.P.Program.fits c.args.system.now.parts.program)
    c.args.event.now c.on-reply.result c.take_released-outputs.result c.args.system.now c.take_released-outputs.new.self
    (g.met.P.Program.lawful c.args.system.now.parts.program)
    (comes_to g.P.Program.meaning c.args.event.now c.on-reply.result c.take_released-outputs.result c.args.system.now
    c.on-reply.new.self c.take_released-outputs.new.self
    (record {
      on = c.on-reply.ensures.on;
      limit = c.on-reply.ensures.limit;
      no_memory = c.on-reply.ensures.no_memory;
    }) (record {
      taken = c.take_released-outputs.ensures.outputs;
      rest = c.take_released-outputs.ensures.rest;
      packets = c.take_released-outputs.ensures.packets;
      stands = c.take_released-outputs.ensures.stands;
    })) s w at short
