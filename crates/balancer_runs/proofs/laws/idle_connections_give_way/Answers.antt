use Rattle.balancer_runs.proofs.GivingWay.{idle_give_way}
use Rattle.balancer_runs.proofs.laws.idle_connections_give_way.Goals as goal

pub returns : goal.returns
returns c = idle_give_way
