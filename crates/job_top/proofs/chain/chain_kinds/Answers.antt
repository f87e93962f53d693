use Rattle.box_conf.specs.declared.kind.BoxKind.TheVariants.{Count}
use Rattle.chain_command.specs.Outputs.{names_of}
use Rattle.job_top.proofs.ChainBoxes.{begun_of}
use Rattle.job_top.proofs.chain.chain_kinds.Goals as goal

pub returns-in-Count-clause-in_order : goal.returns-in-Count-clause-in_order
returns-in-Count-clause-in_order g c p honest =
    begun_of (Count c.in-Count.count) c.args.first c.args.second c.args.run (names_of c.args.files)
    (g.W.World.shows p c.args.world.now) (g.W.World.shows p c.chain_behind.new.world) c.in-Count.is
    (c.chain_behind.ensures.in_order p honest)
