use Rattle.std.proofs.Common.{ap, sym, ◌∙◌}
use Rattle.box_conf.specs.declared.kind.BoxKind.TheVariants.{Count, Monitor, Nat, Balancer}
use Rattle.job_commands.specs.Run.{script_of}
use Rattle.job_top.proofs.TraceBoxes.{begun_as}
use Rattle.job_top.proofs.trace.trace_box.Goals as goal

pub returns-in-Count-clause-in_order : goal.returns-in-Count-clause-in_order
returns-in-Count-clause-in_order g c p honest =
    begun_as (Count c.in-Count.count) c.args.inputs.conf.kind (script_of c.args.inputs) c.args.inputs.events
    c.args.table.now (g.W.World.shows p c.args.world.now) (g.W.World.shows p c.run_trace.new.world)
    c.drop_register-register.result c.in-Count.is c.drop_register-register.ensures
    (c.run_trace.ensures.in_order p honest)

pub returns-in-Monitor-clause-in_order : goal.returns-in-Monitor-clause-in_order
returns-in-Monitor-clause-in_order g c p honest =
    begun_as (Monitor c.in-Monitor.monitor) c.args.inputs.conf.kind (script_of c.args.inputs) c.args.inputs.events
    c.args.table.now (g.W.World.shows p c.args.world.now) (g.W.World.shows p c.run_trace-in-Monitor.new.world)
    c.drop_register-register.result c.in-Monitor.is c.drop_register-register.ensures
    (c.run_trace-in-Monitor.ensures.in_order p honest)

pub returns-in-Nat-clause-in_order : goal.returns-in-Nat-clause-in_order
returns-in-Nat-clause-in_order g c p honest =
    begun_as _ c.args.inputs.conf.kind (script_of c.args.inputs) c.args.inputs.events c.args.table.now
    (g.W.World.shows p c.args.world.now) (g.W.World.shows p c.run_trace-in-Nat.new.world)
    c.drop_register-register.result (c.in-Nat.is ∙ ap Nat (sym c.in-Nat.nat-is))
    c.drop_register-register.ensures (c.run_trace-in-Nat.ensures.in_order p honest)

pub returns-in-Balancer-clause-in_order : goal.returns-in-Balancer-clause-in_order
returns-in-Balancer-clause-in_order g c p honest =
    begun_as _ c.args.inputs.conf.kind (script_of c.args.inputs) c.args.inputs.events c.args.table.now
    (g.W.World.shows p c.args.world.now) (g.W.World.shows p c.run_trace-in-Balancer.new.world)
    c.drop_register-register.result (c.in-Balancer.is ∙ ap Balancer (sym c.in-Balancer.balancer-is))
    c.drop_register-register.ensures (c.run_trace-in-Balancer.ensures.in_order p honest)
