use Rattle.box_worlds.proofs.Translations.{nat_translated, balancer_sent_on}
use Rattle.box_worlds.proofs.laws.released_packets_are_translations.Goals as goal

pub returns-clause-nat : goal.returns-clause-nat
returns-clause-nat c = nat_translated

pub returns-clause-balancer : goal.returns-clause-balancer
returns-clause-balancer c = balancer_sent_on
