use Rattle.access_log.proofs.MemberLemmas.{number_of_members, same_members as same_count}
use Rattle.access_log.proofs.laws.held_sets_are_counted.Goals as goal

pub returns-clause-counted : goal.returns-clause-counted
returns-clause-counted c = number_of_members

pub returns-clause-same_members : goal.returns-clause-same_members
returns-clause-same_members c = same_count
