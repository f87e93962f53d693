use Rattle.std.proofs.Common.{ap, sym, ◌∙◌}
use Rattle.box_conf.specs.declared.kind.BoxKind.TheVariants.{Count, Monitor, Nat, Balancer}
use Rattle.job_commands.specs.HandWords.{resume_names_of}
use Rattle.job_top.specs.Resume.{resumption_of}
use Rattle.job_top.proofs.ResumeBoxes.{resumed_as}
use Rattle.job_top.proofs.resume.resume_kinds.Goals as goal

pub returns-in-Count-clause-shows : goal.returns-in-Count-clause-shows
returns-in-Count-clause-shows g c p honest =
    resumed_as (Count c.in-Count.count) c.args.source.conf.kind (g.W.World.healthy c.args.world.now)
    (resumption_of c.args.source) (resume_names_of c.args.names) c.resume_box.result
    (g.W.World.shows p c.args.world.now) (g.W.World.shows p c.resume_box.new.world) c.in-Count.is
    (c.resume_box.ensures.shows p honest)

pub returns-in-Monitor-clause-shows : goal.returns-in-Monitor-clause-shows
returns-in-Monitor-clause-shows g c p honest =
    resumed_as (Monitor c.in-Monitor.monitor) c.args.source.conf.kind (g.W.World.healthy c.args.world.now)
    (resumption_of c.args.source) (resume_names_of c.args.names) c.resume_box-in-Monitor.result
    (g.W.World.shows p c.args.world.now) (g.W.World.shows p c.resume_box-in-Monitor.new.world) c.in-Monitor.is
    (c.resume_box-in-Monitor.ensures.shows p honest)

pub returns-in-Nat-clause-shows : goal.returns-in-Nat-clause-shows
returns-in-Nat-clause-shows g c p honest =
    resumed_as _ c.args.source.conf.kind (g.W.World.healthy c.args.world.now) (resumption_of c.args.source)
    (resume_names_of c.args.names) c.resume_box-in-Nat.result (g.W.World.shows p c.args.world.now)
    (g.W.World.shows p c.resume_box-in-Nat.new.world)
    (c.in-Nat.is ∙ ap Nat (sym c.in-Nat.nat-is))
    (c.resume_box-in-Nat.ensures.shows p honest)

pub returns-in-Balancer-clause-shows : goal.returns-in-Balancer-clause-shows
returns-in-Balancer-clause-shows g c p honest =
    resumed_as _ c.args.source.conf.kind (g.W.World.healthy c.args.world.now) (resumption_of c.args.source)
    (resume_names_of c.args.names) c.resume_box-in-Balancer.result (g.W.World.shows p c.args.world.now)
    (g.W.World.shows p c.resume_box-in-Balancer.new.world)
    (c.in-Balancer.is ∙ ap Balancer (sym c.in-Balancer.balancer-is))
    (c.resume_box-in-Balancer.ensures.shows p honest)
