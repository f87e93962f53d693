use Rattle.balancer_runs.proofs.DropCauses.{drops_have}
use Rattle.balancer_runs.proofs.laws.drops_have_their_causes.Goals as goal

pub returns : goal.returns
returns c = drops_have
