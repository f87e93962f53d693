use Rattle.nat_runs.proofs.Passing.{each_passes, none_vanishes, none_vanishes_at_rest}
use Rattle.nat_runs.proofs.laws.no_packet_vanishes.Goals as goal

pub returns-clause-each : goal.returns-clause-each
returns-clause-each c = each_passes

pub returns-clause-always : goal.returns-clause-always
returns-clause-always c = none_vanishes

pub returns-clause-at_rest : goal.returns-clause-at_rest
returns-clause-at_rest c = none_vanishes_at_rest
