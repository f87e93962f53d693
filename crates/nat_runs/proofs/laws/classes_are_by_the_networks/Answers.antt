use Rattle.nat_runs.proofs.NetworkClasses.{counted_by_class}
use Rattle.nat_runs.proofs.Networks.{sent_by_class, mappings_are_inside}
use Rattle.nat_runs.proofs.laws.classes_are_by_the_networks.Goals as goal

pub returns-clause-sent : goal.returns-clause-sent
returns-clause-sent c = sent_by_class

pub returns-clause-counted : goal.returns-clause-counted
returns-clause-counted c = counted_by_class

pub returns-clause-mappings : goal.returns-clause-mappings
returns-clause-mappings c = mappings_are_inside
