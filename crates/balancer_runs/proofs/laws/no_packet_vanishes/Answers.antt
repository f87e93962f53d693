use Rattle.balancer_runs.proofs.Settling.{each_has_one}
use Rattle.balancer_runs.proofs.Vanishing.{none_vanishes, none_vanishes_at_rest}
use Rattle.balancer_runs.proofs.laws.no_packet_vanishes.Goals as goal

pub returns-clause-moving : goal.returns-clause-moving
returns-clause-moving c = none_vanishes

pub returns-clause-at_rest : goal.returns-clause-at_rest
returns-clause-at_rest c = none_vanishes_at_rest

pub returns-clause-each : goal.returns-clause-each
returns-clause-each c = each_has_one
