use Rattle.balancer_runs.proofs.Ending.{sides_are_heard, ended_give_way, resets_remove}
use Rattle.balancer_runs.proofs.Saying.{phases_are_said}
use Rattle.balancer_runs.proofs.laws.connections_end_as_both_sides_say.Goals as goal

pub returns-clause-said : goal.returns-clause-said
returns-clause-said c = phases_are_said

pub returns-clause-heard : goal.returns-clause-heard
returns-clause-heard c = sides_are_heard

pub returns-clause-gives_way : goal.returns-clause-gives_way
returns-clause-gives_way c = ended_give_way

pub returns-clause-removed : goal.returns-clause-removed
returns-clause-removed c = resets_remove
