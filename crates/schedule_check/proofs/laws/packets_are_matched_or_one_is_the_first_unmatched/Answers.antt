use Rattle.schedule_check.proofs.FirstOnes.{found, none_unmatched, one_first}
use Rattle.schedule_check.proofs.laws.packets_are_matched_or_one_is_the_first_unmatched.Goals as goal

pub returns-clause-either : goal.returns-clause-either
returns-clause-either c = λ u v packets sent. found u packets v sent

pub returns-clause-not_both : goal.returns-clause-not_both
returns-clause-not_both c = λ u v packets sent. none_unmatched u packets v sent

pub returns-clause-one : goal.returns-clause-one
returns-clause-one c = λ u v packets sent. one_first u packets v sent
