use Rattle.balancer_runs.proofs.Connections.{new_have_least}
use Rattle.balancer_runs.proofs.LoadTouches.{loads_raised}
use Rattle.balancer_runs.proofs.laws.new_connections_have_least_load.Goals as goal

pub returns-clause-chosen : goal.returns-clause-chosen
returns-clause-chosen c = loads_raised

pub returns-clause-bound : goal.returns-clause-bound
returns-clause-bound c = new_have_least
