use Rattle.nat_runs.proofs.Causes.{drops_have_causes}
use Rattle.nat_runs.proofs.laws.drops_have_their_causes.Goals as goal

pub returns : goal.returns
returns c = drops_have_causes
