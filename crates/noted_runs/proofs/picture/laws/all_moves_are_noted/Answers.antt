use Rattle.noted_runs.proofs.AllNoted.{movers_all, moves_all}
use Rattle.noted_runs.proofs.picture.laws.all_moves_are_noted.Goals as goal

pub returns-clause-movers : goal.returns-clause-movers
returns-clause-movers g c = movers_all

pub returns-clause-moves : goal.returns-clause-moves
returns-clause-moves g c = moves_all
