use Rattle.balancer_runs.proofs.LiveConnections.{answers_before_idle}
use Rattle.balancer_runs.proofs.laws.answers_come_before_idle.Goals as goal

pub returns : goal.returns
returns c = answers_before_idle
