use Rattle.nat_runs.proofs.NewPorts.{new_have_parity}
use Rattle.nat_runs.proofs.laws.new_mappings_keep_parity.Goals as goal

pub returns : goal.returns
returns c = new_have_parity
