use Rattle.box_conf.proofs.OneFile.{seal_is}
use Rattle.box_conf.proofs.Statements.{lines_are, means_settings, ports_inside}
use Rattle.box_conf.proofs.laws.lines_are_settings.Goals as goal

pub returns-clause-settings : goal.returns-clause-settings
returns-clause-settings c = lines_are

pub returns-clause-meaning : goal.returns-clause-meaning
returns-clause-meaning c = means_settings

pub returns-clause-inside : goal.returns-clause-inside
returns-clause-inside c = ports_inside

pub returns-clause-sealed : goal.returns-clause-sealed
returns-clause-sealed c = seal_is
