use Rattle.nat_runs.proofs.Live.{comes_in_by_live}
use Rattle.nat_runs.proofs.laws.what_comes_in_found_a_live_mapping.Goals as goal

pub returns : goal.returns
returns c = comes_in_by_live
