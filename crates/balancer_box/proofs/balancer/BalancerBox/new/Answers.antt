use Rattle.balancer_box.proofs.BoxLemmas.{box_is}
use Rattle.balancer_box.proofs.balancer.BalancerBox.new.Goals as goal

pub returns : goal.returns
returns c = box_is c.args.settings _ _ _ _
