use Rattle.balancer_box.proofs.Emissions.{emissions_follow}
use Rattle.balancer_box.proofs.laws.emissions_follow_connections.Goals as goal

pub returns : goal.returns
returns c = emissions_follow
