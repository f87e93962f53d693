use Rattle.nat_runs.proofs.Staying.{mappings_stay}
use Rattle.nat_runs.proofs.laws.mappings_stay_until_idle.Goals as goal

pub returns : goal.returns
returns c = mappings_stay
