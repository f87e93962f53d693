use Rattle.plain_machine.specs.History.{log_of}
use Rattle.plain_machine.proofs.Histories.{history_log, earlier_log}
use Rattle.master_core.proofs.Holdings.{part_is_closed_part, part_holds}
use Rattle.master_core.proofs.Moments.{moment_log, moment_closed}
use Rattle.master_core.proofs.laws.closed_part_is_defined.Goals as goal

pub returns-clause-part : goal.returns-clause-part
returns-clause-part g c = λ m inputs threads steps earlier held new h before holds part.
    part_is_closed_part (log_of steps) (log_of earlier) held new (history_log m inputs threads steps h)
    (moment_log m inputs threads steps earlier h before) (moment_closed m inputs threads steps earlier h before)
    (λ e here. earlier_log earlier steps e before here) holds part

pub returns-clause-holds : goal.returns-clause-holds
returns-clause-holds g c = part_holds
