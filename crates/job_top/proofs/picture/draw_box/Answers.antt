use Rattle.std.proofs.Common.{ap, sym, ◌∙◌}
use Rattle.box_conf.specs.declared.kind.BoxKind.TheVariants.{Count, Monitor, Nat, Balancer}
use Rattle.job_commands.specs.Run.{script_of}
use Rattle.job_top.proofs.PictureBoxes.{drawn_as}
use Rattle.job_top.proofs.picture.draw_box.Goals as goal

pub returns-in-Count-clause-in_order : goal.returns-in-Count-clause-in_order
returns-in-Count-clause-in_order g c p honest =
    drawn_as (Count c.in-Count.count) c.args.inputs.conf.kind c.args.title.now (script_of c.args.inputs)
    c.args.inputs.events c.args.name.now (g.W.World.shows p c.args.world.now)
    (g.W.World.shows p c.run_picture.new.world) c.in-Count.is (c.run_picture.ensures.in_order p honest)

pub returns-in-Monitor-clause-in_order : goal.returns-in-Monitor-clause-in_order
returns-in-Monitor-clause-in_order g c p honest =
    drawn_as (Monitor c.in-Monitor.monitor) c.args.inputs.conf.kind c.args.title.now (script_of c.args.inputs)
    c.args.inputs.events c.args.name.now (g.W.World.shows p c.args.world.now)
    (g.W.World.shows p c.run_picture-in-Monitor.new.world) c.in-Monitor.is
    (c.run_picture-in-Monitor.ensures.in_order p honest)

pub returns-in-Nat-clause-in_order : goal.returns-in-Nat-clause-in_order
returns-in-Nat-clause-in_order g c p honest =
    drawn_as _ c.args.inputs.conf.kind c.args.title.now (script_of c.args.inputs) c.args.inputs.events c.args.name.now
    (g.W.World.shows p c.args.world.now) (g.W.World.shows p c.run_picture-in-Nat.new.world)
    (c.in-Nat.is ∙ ap Nat (sym c.in-Nat.nat-is))
    (c.run_picture-in-Nat.ensures.in_order p honest)

pub returns-in-Balancer-clause-in_order : goal.returns-in-Balancer-clause-in_order
returns-in-Balancer-clause-in_order g c p honest =
    drawn_as _ c.args.inputs.conf.kind c.args.title.now (script_of c.args.inputs) c.args.inputs.events c.args.name.now
    (g.W.World.shows p c.args.world.now) (g.W.World.shows p c.run_picture-in-Balancer.new.world)
    (c.in-Balancer.is ∙ ap Balancer (sym c.in-Balancer.balancer-is))
    (c.run_picture-in-Balancer.ensures.in_order p honest)
