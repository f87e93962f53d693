use Rattle.nat_runs.proofs.Errors.{begins_by_flow, sends_by_flow, none_finds_port, other_moves_are_the_same}
use Rattle.nat_runs.proofs.laws.errors_go_through_by_the_line.Goals as goal

pub returns-clause-begins : goal.returns-clause-begins
returns-clause-begins c = begins_by_flow

pub returns-clause-sends : goal.returns-clause-sends
returns-clause-sends c = sends_by_flow

pub returns-clause-none : goal.returns-clause-none
returns-clause-none c = none_finds_port

pub returns-clause-moves : goal.returns-clause-moves
returns-clause-moves c = other_moves_are_the_same
