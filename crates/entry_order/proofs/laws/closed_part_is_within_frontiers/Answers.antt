use Rattle.entry_order.proofs.laws.closed_part_is_within_frontiers.Goals as goal
use Rattle.entry_order.proofs.ClosedParts.{closed_part_there}
use Rattle.entry_order.proofs.Parts.{closed_part, part_unique}

pub returns-clause-part : goal.returns-clause-part
returns-clause-part c = closed_part

pub returns-clause-there : goal.returns-clause-there
returns-clause-there c = closed_part_there

pub returns-clause-one : goal.returns-clause-one
returns-clause-one c = λ log stored held part other a b e.
    (part_unique log stored held part other a b e, part_unique log stored held other part b a e)
