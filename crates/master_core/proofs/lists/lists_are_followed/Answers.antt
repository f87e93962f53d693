use Rattle.std.proofs.Common.{refl, []}
use Rattle.plain_machine.proofs.PlayedLists.{play_history}
use Rattle.master_core.proofs.ListsLemmas.{grown, followed_grown, moves_within}
use Rattle.master_core.proofs.lists.lists_are_followed.Goals as goal

pub returns-clause-starts : goal.returns-clause-starts
returns-clause-starts g c = λ m inputs threads p stands. record { steps = []; legal = refl; stands = stands }

pub returns-clause-grows : goal.returns-clause-grows
returns-clause-grows g c = λ m inputs threads. grown m inputs threads

pub returns-clause-follows : goal.returns-clause-follows
returns-clause-follows g c = λ m inputs threads. followed_grown m inputs threads

pub returns-clause-history : goal.returns-clause-history
returns-clause-history g c = λ m inputs threads moves p stood.
    ((play_history m inputs threads moves stood.steps stood.legal).0, stood.stands.log)

pub returns-clause-within : goal.returns-clause-within
returns-clause-within g c = λ t steps. moves_within t steps
