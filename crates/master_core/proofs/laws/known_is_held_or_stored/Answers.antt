use Rattle.plain_machine.specs.History.{log_of}
use Rattle.plain_machine.proofs.Histories.{history_log, earlier_log}
use Rattle.master_core.proofs.Frontiers.{known_is_there, there_is_known}
use Rattle.master_core.proofs.Moments.{moment_log}
use Rattle.master_core.proofs.laws.known_is_held_or_stored.Goals as goal

pub returns : goal.returns
returns g c = λ m inputs threads steps earlier held e h before holds here.
    let good_stored = moment_log m inputs threads steps earlier h before in (
      known_is_there (log_of steps) (log_of earlier) held e (history_log m inputs threads steps h) good_stored
          (λ f stored. earlier_log earlier steps f before stored) holds here,
      there_is_known (log_of steps) (log_of earlier) held e good_stored holds,
    )
