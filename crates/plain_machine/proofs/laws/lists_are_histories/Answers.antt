use Rattle.std.proofs.Common.{◌+◌, [], ap, ◌∙◌}
use Rattle.plain_machine.proofs.PlayedLists.{play_history, history_played, fault_is_first}
use Rattle.plain_machine.proofs.laws.lists_are_histories.Goals as goal

pub returns-clause-history : goal.returns-clause-history
returns-clause-history g c = λ m inputs threads moves steps e. (play_history m inputs threads moves steps e).0

pub returns-clause-one_step_each : goal.returns-clause-one_step_each
returns-clause-one_step_each g c = λ m inputs threads moves steps e. (play_history m inputs threads moves steps e).1

pub returns-clause-played : goal.returns-clause-played
returns-clause-played g c = λ m inputs threads steps h. history_played m inputs threads steps h

pub returns-clause-first_fault : goal.returns-clause-first_fault
returns-clause-first_fault g c = λ m inputs threads moves fault e.
    let r = fault_is_first m inputs threads moves [] fault e in
    (r.0, r.1, r.2, r.3, r.4, r.5, r.6, r.7 ∙ ap (λ n. n + 1) (play_history m inputs threads r.0 r.3 r.5).1)
