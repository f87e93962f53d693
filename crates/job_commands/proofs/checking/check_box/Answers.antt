use Rattle.std.proofs.Common.{ap, sym, ◌∙◌, length}
use Rattle.box_conf.specs.declared.kind.BoxKind.TheVariants.{Monitor, Nat, Balancer}
use Rattle.output_files.specs.Writes.{HasBegun}
use Rattle.schedule_commands.specs.Checking.{found_writes}
use Rattle.job_commands.specs.Schedules.{schedule_of}
use Rattle.job_commands.proofs.CheckBoxes.{said_as, found_as}
use Rattle.job_commands.proofs.checking.check_box.Goals as goal

pub returns-in-Monitor-clause-says : goal.returns-in-Monitor-clause-says
returns-in-Monitor-clause-says g c =
    said_as _ c.args.inputs.played.conf.kind (schedule_of c.args.inputs.played) _ _ _ _ _
    (c.in-Monitor.is ∙ ap Monitor (sym c.in-Monitor.monitor-is)) c.as_slice-released.ensures
    c.check_schedule-in-Monitor.ensures.says

pub returns-in-Monitor-clause-in_order : goal.returns-in-Monitor-clause-in_order
returns-in-Monitor-clause-in_order g c p honest =
    found_as (λ ps. HasBegun (found_writes (length ps)) (g.W.World.shows p c.args.world.now)
    (g.W.World.shows p c.check_schedule-in-Monitor.new.world)) _ _ c.args.inputs.played.conf.kind
    (schedule_of c.args.inputs.played) _ _ _ _ (c.in-Monitor.is ∙ ap Monitor (sym c.in-Monitor.monitor-is))
    c.as_slice-released.ensures (c.check_schedule-in-Monitor.ensures.in_order p honest)

pub returns-in-Nat-clause-says : goal.returns-in-Nat-clause-says
returns-in-Nat-clause-says g c =
    said_as _ c.args.inputs.played.conf.kind (schedule_of c.args.inputs.played) _ _ _ _ _
    (c.in-Nat.is ∙ ap Nat (sym c.in-Nat.nat-is)) c.as_slice-released.ensures
    c.check_schedule-in-Nat.ensures.says

pub returns-in-Nat-clause-in_order : goal.returns-in-Nat-clause-in_order
returns-in-Nat-clause-in_order g c p honest =
    found_as (λ ps. HasBegun (found_writes (length ps)) (g.W.World.shows p c.args.world.now)
    (g.W.World.shows p c.check_schedule-in-Nat.new.world)) _ _ c.args.inputs.played.conf.kind
    (schedule_of c.args.inputs.played) _ _ _ _ (c.in-Nat.is ∙ ap Nat (sym c.in-Nat.nat-is))
    c.as_slice-released.ensures (c.check_schedule-in-Nat.ensures.in_order p honest)

pub returns-clause-says : goal.returns-clause-says
returns-clause-says g c =
    said_as _ c.args.inputs.played.conf.kind (schedule_of c.args.inputs.played) _ _ _ _ _
    (c.in-Balancer.is ∙ ap Balancer (sym c.in-Balancer.balancer-is)) c.as_slice-released.ensures
    c.check_schedule-in-Balancer.ensures.says

pub returns-clause-in_order : goal.returns-clause-in_order
returns-clause-in_order g c p honest =
    found_as (λ ps. HasBegun (found_writes (length ps)) (g.W.World.shows p c.args.world.now)
    (g.W.World.shows p c.check_schedule-in-Balancer.new.world)) _ _ c.args.inputs.played.conf.kind
    (schedule_of c.args.inputs.played) _ _ _ _ (c.in-Balancer.is ∙ ap Balancer (sym c.in-Balancer.balancer-is))
    c.as_slice-released.ensures (c.check_schedule-in-Balancer.ensures.in_order p honest)
