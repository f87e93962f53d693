use Rattle.balancer_runs.proofs.Followed.{followed_by_the_line, none_followed_without_it, touches_as_before}
use Rattle.balancer_runs.proofs.Followed.{begins_as_before}
use Rattle.balancer_runs.proofs.Following.{sides_follow}
use Rattle.balancer_runs.proofs.laws.connections_are_followed_by_the_line.Goals as goal

pub returns-clause-by_the_line : goal.returns-clause-by_the_line
returns-clause-by_the_line c = followed_by_the_line

pub returns-clause-none_without_it : goal.returns-clause-none_without_it
returns-clause-none_without_it c = none_followed_without_it

pub returns-clause-touches : goal.returns-clause-touches
returns-clause-touches c = touches_as_before

pub returns-clause-begins : goal.returns-clause-begins
returns-clause-begins c = begins_as_before

pub returns-clause-sides : goal.returns-clause-sides
returns-clause-sides c = sides_follow
