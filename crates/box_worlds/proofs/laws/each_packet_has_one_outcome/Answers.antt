use Rattle.box_worlds.proofs.EachOutcome.{nat_outcomes, balancer_outcomes}
use Rattle.box_worlds.proofs.laws.each_packet_has_one_outcome.Goals as goal

pub returns-clause-nat : goal.returns-clause-nat
returns-clause-nat c = nat_outcomes

pub returns-clause-balancer : goal.returns-clause-balancer
returns-clause-balancer c = balancer_outcomes
