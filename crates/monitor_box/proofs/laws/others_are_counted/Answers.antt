use Rattle.monitor_box.proofs.CountedPackets.{counts_others, counts_others_at_rest}
use Rattle.monitor_box.proofs.laws.others_are_counted.Goals as goal

pub returns-clause-others : goal.returns-clause-others
returns-clause-others c = counts_others

pub returns-clause-others_at_rest : goal.returns-clause-others_at_rest
returns-clause-others_at_rest c = counts_others_at_rest
