use Rattle.balancer_runs.proofs.Connections.{connections_stay}
use Rattle.balancer_runs.proofs.laws.connections_stay_until_idle_or_reset.Goals as goal

pub returns : goal.returns
returns c = connections_stay
