use Rattle.monitor_box.proofs.FlowTables.{run_stands}
use Rattle.monitor_box.proofs.laws.flows_stand_by_their_sums.Goals as goal

pub returns : goal.returns
returns c =
    λ tables threads inputs steps some few bytes h v low. (run_stands tables threads inputs steps some few bytes h).1 v
