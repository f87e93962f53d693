use Rattle.plain_machine.proofs.Agreement.{histories_agree}
use Rattle.plain_machine.proofs.PlayedLists.{play_history}
use Rattle.plain_machine.proofs.laws.runs_agree.Goals as goal

pub returns : goal.returns
returns g c = λ m inputs threads moves others steps other_steps set played also closed kept kept_too.
    histories_agree m inputs threads steps other_steps set (play_history m inputs threads moves steps played).0
    (play_history m inputs threads others other_steps also).0 closed kept kept_too
