use Rattle.box_conf.proofs.Ranges.{read_within}
use Rattle.box_conf.proofs.settings.read_line.Goals as goal

pub returns-clause-within : goal.returns-clause-within
returns-clause-within c = read_within c.args.line c.args.had c.args.words c.read_values.result c.read_values.ensures
