use Rattle.box_worlds.proofs.BoxInputs.{nat_left_or_counted, balancer_left_or_counted, nat_flow, balancer_flow}
use Rattle.box_worlds.proofs.CaptureOutcomes.{nat_counts, balancer_counts}
use Rattle.box_worlds.proofs.laws.settled_packets_left_or_were_counted.Goals as goal

pub returns-clause-nat : goal.returns-clause-nat
returns-clause-nat c = nat_left_or_counted

pub returns-clause-balancer : goal.returns-clause-balancer
returns-clause-balancer c = balancer_left_or_counted

pub returns-clause-nat_counts : goal.returns-clause-nat_counts
returns-clause-nat_counts c = nat_counts

pub returns-clause-balancer_counts : goal.returns-clause-balancer_counts
returns-clause-balancer_counts c = balancer_counts

pub returns-clause-nat_flow : goal.returns-clause-nat_flow
returns-clause-nat_flow c = nat_flow

pub returns-clause-balancer_flow : goal.returns-clause-balancer_flow
returns-clause-balancer_flow c = balancer_flow
