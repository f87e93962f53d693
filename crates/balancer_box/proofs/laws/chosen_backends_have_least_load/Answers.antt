use Rattle.balancer_box.proofs.LoadLemmas.{has_least}
use Rattle.balancer_box.proofs.laws.chosen_backends_have_least_load.Goals as goal

pub returns : goal.returns
returns c = has_least
