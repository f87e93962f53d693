use Rattle.entry_order.proofs.laws.outputs_have_stamps.Goals as goal
use Rattle.std.proofs.Common.{refl}
use Rattle.entry_order.proofs.Joins.{output_stamp_is, output_stamp_of, zero_first, first_is_zero, output_older}
use Rattle.entry_order.proofs.Joins.{output_newer}

pub returns-clause-last : goal.returns-clause-last
returns-clause-last c = λ log last s good here. (
  output_stamp_of log last.thread last.number last s good here refl refl,
  output_stamp_is log last.thread last.number last s good here refl refl,
)

pub returns-clause-none : goal.returns-clause-none
returns-clause-none c = λ log t s good. (zero_first log t s good, first_is_zero log t s good)

pub returns-clause-stays : goal.returns-clause-stays
returns-clause-stays c = λ x log t n e good low. (output_older x log t n e good low, output_newer x log t n e)
