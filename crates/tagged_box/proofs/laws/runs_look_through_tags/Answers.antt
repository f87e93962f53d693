use Rattle.tagged_box.proofs.Moves.{log_same, values_same}
use Rattle.tagged_box.proofs.Runs.{play_same, run_behind, run_in_front}
use Rattle.tagged_box.proofs.Unique.{runs_same}
use Rattle.tagged_box.proofs.laws.runs_look_through_tags.Goals as goal

pub returns-clause-plays : goal.returns-clause-plays
returns-clause-plays g c = λ m tags inputs threads moves. play_same tags m inputs threads moves

pub returns-clause-behind : goal.returns-clause-behind
returns-clause-behind g c = λ m tags inputs threads steps h. run_behind tags m inputs threads steps h

pub returns-clause-in_front : goal.returns-clause-in_front
returns-clause-in_front g c = λ m tags inputs threads others h. run_in_front tags m inputs threads others h

pub returns-clause-only_one : goal.returns-clause-only_one
returns-clause-only_one g c = λ m tags inputs threads steps others h k e.
    runs_same tags inputs m threads steps others h k e

pub returns-clause-log : goal.returns-clause-log
returns-clause-log g c = λ tags steps. log_same tags steps

pub returns-clause-values : goal.returns-clause-values
returns-clause-values g c = λ m tags steps v. values_same tags m steps v
