use Rattle.box_worlds.proofs.CausedDrops.{nat_drops, balancer_drops}
use Rattle.box_worlds.proofs.laws.drops_have_causes_over_crashes.Goals as goal

pub returns-clause-nat : goal.returns-clause-nat
returns-clause-nat c = nat_drops

pub returns-clause-balancer : goal.returns-clause-balancer
returns-clause-balancer c = balancer_drops
