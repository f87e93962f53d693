use Rattle.std.proofs.Common.{arith}
use Rattle.link_store.proofs.KeptLemmas.{can_in, its_frame}
use Rattle.link_store.proofs.links.Links.send_output.Goals as goal

pub of_output-frame-requires : goal.of_output-frame-requires
of_output-frame-requires c = can_in c.args.epoch 1 c.args.threads c.args.output (omega arith) c.requires

pub returns-clause-frame : goal.returns-clause-frame
returns-clause-frame c =
    its_frame c.args.epoch c.args.threads c.args.output c.of_output-frame.ensures.frame c.requires.sent.epoch_from
    (omega (arith, c.ranges.epoch.fits))
