use Rattle.drill_report.proofs.Rounds.{rounds_are_enough, rounds_are_fewest}
use Rattle.drill_report.proofs.laws.rounds_are_the_fewest_that_feed_all.Goals as goal

pub returns-clause-enough : goal.returns-clause-enough
returns-clause-enough c = λ every packets some. rounds_are_enough every packets some

pub returns-clause-fewest : goal.returns-clause-fewest
returns-clause-fewest c = λ every packets n some all. rounds_are_fewest every packets n some all
