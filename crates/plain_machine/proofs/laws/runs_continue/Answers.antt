use Rattle.plain_machine.proofs.Continuations.{continue}
use Rattle.plain_machine.proofs.PlayedLists.{play_history, played_on}
use Rattle.plain_machine.proofs.laws.runs_continue.Goals as goal

pub returns : goal.returns
returns g c =
    λ m inputs threads past others steps other_steps set more played also closed kept kept_too good sub ground.
    let on = continue m inputs threads other_steps steps (play_history m inputs threads others other_steps also).0
    (play_history m inputs threads past steps played).0 set closed kept kept_too more good ground sub in
    let rest = played_on m inputs threads past steps played on.steps on.history on.base in
    (rest.0, on.steps, rest.1, on.log_is)
