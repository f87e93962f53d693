use Rattle.nat_runs.proofs.GivingWay.{idle_give_way}
use Rattle.nat_runs.proofs.laws.idle_mappings_give_way.Goals as goal

pub returns : goal.returns
returns c = idle_give_way
