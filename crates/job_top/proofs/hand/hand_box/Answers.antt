use Rattle.std.proofs.Common.{ap, sym, ◌∙◌}
use Rattle.box_conf.specs.declared.kind.BoxKind.TheVariants.{Count, Monitor, Nat, Balancer}
use Rattle.job_commands.specs.HandWords.{hand_names_of}
use Rattle.job_commands.specs.Run.{script_of}
use Rattle.job_top.specs.Hand.{hand_outputs}
use Rattle.job_top.proofs.HandBoxes.{handed_as}
use Rattle.job_top.proofs.hand.hand_box.Goals as goal

pub returns-in-Count-clause-in_order : goal.returns-in-Count-clause-in_order
returns-in-Count-clause-in_order g c p honest =
    handed_as c.args.inputs.conf.seal (Count c.in-Count.count) c.args.inputs.conf.kind (script_of c.args.inputs)
    (hand_outputs (hand_names_of c.args.names)) c.args.inputs.events (g.W.World.shows p c.args.world.now)
    (g.W.World.shows p c.run_hand.new.world) c.in-Count.is (c.run_hand.ensures.in_order p honest)

pub returns-in-Monitor-clause-in_order : goal.returns-in-Monitor-clause-in_order
returns-in-Monitor-clause-in_order g c p honest =
    handed_as c.args.inputs.conf.seal (Monitor c.in-Monitor.monitor) c.args.inputs.conf.kind (script_of c.args.inputs)
    (hand_outputs (hand_names_of c.args.names)) c.args.inputs.events (g.W.World.shows p c.args.world.now)
    (g.W.World.shows p c.run_hand-in-Monitor.new.world) c.in-Monitor.is
    (c.run_hand-in-Monitor.ensures.in_order p honest)

pub returns-in-Nat-clause-in_order : goal.returns-in-Nat-clause-in_order
returns-in-Nat-clause-in_order g c p honest =
    handed_as c.args.inputs.conf.seal _ c.args.inputs.conf.kind (script_of c.args.inputs)
    (hand_outputs (hand_names_of c.args.names)) c.args.inputs.events (g.W.World.shows p c.args.world.now)
    (g.W.World.shows p c.run_hand-in-Nat.new.world) (c.in-Nat.is ∙ ap Nat (sym c.in-Nat.nat-is))
    (c.run_hand-in-Nat.ensures.in_order p honest)

pub returns-in-Balancer-clause-in_order : goal.returns-in-Balancer-clause-in_order
returns-in-Balancer-clause-in_order g c p honest =
    handed_as c.args.inputs.conf.seal _ c.args.inputs.conf.kind (script_of c.args.inputs)
    (hand_outputs (hand_names_of c.args.names)) c.args.inputs.events (g.W.World.shows p c.args.world.now)
    (g.W.World.shows p c.run_hand-in-Balancer.new.world)
    (c.in-Balancer.is ∙ ap Balancer (sym c.in-Balancer.balancer-is)) (c.run_hand-in-Balancer.ensures.in_order p honest)
