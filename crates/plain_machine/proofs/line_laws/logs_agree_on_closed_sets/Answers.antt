use Rattle.plain_machine.proofs.SortedEntries.{weight_moves}
use Rattle.plain_machine.proofs.OneLine.{closed_precedes, closed_stamp}
use Rattle.plain_machine.proofs.SharedSets.{closed_weight, closed_output}
use Rattle.plain_machine.proofs.line_laws.logs_agree_on_closed_sets.Goals as goal

pub returns-clause-precedes : goal.returns-clause-precedes
returns-clause-precedes c = closed_precedes

pub returns-clause-stamps : goal.returns-clause-stamps
returns-clause-stamps c = closed_stamp

pub returns-clause-weights : goal.returns-clause-weights
returns-clause-weights c = closed_weight

pub returns-clause-outputs : goal.returns-clause-outputs
returns-clause-outputs c = closed_output

pub returns-clause-members : goal.returns-clause-members
returns-clause-members c = weight_moves
