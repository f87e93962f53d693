use Rattle.balancer_box.proofs.Charging.{loads_are_charges}
use Rattle.balancer_box.proofs.laws.loads_are_charges.Goals as goal

pub returns : goal.returns
returns c = loads_are_charges
