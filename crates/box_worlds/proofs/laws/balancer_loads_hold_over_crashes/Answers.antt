use Rattle.box_worlds.proofs.BalancerLoads.{are_charged, settled_loads}
use Rattle.box_worlds.proofs.laws.balancer_loads_hold_over_crashes.Goals as goal

pub returns-clause-charges : goal.returns-clause-charges
returns-clause-charges c = are_charged

pub returns-clause-settled : goal.returns-clause-settled
returns-clause-settled c = settled_loads
