use Rattle.std.proofs.Common.{rules, Ok}
use Rattle.box_conf.proofs.Ranges.{stays_in_range}
use Rattle.box_conf.proofs.conf.set_by_line.Goals as goal

pub returns-clause-in_range : goal.returns-clause-in_range
returns-clause-in_range c =
    stays_in_range c.args.kind c.args.settings c.args.words (Ok c.with.result) c.requires (search rules)
