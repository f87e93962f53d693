use Rattle.nat_runs.proofs.Reasons.{reasons_stand}
use Rattle.nat_runs.proofs.laws.traced_reasons_are_those_counted.Goals as goal

pub returns : goal.returns
returns c = reasons_stand
