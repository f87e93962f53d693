use Rattle.entry_order.proofs.laws.missing_is_past_frontiers.Goals as goal
use Rattle.entry_order.proofs.Missing.{due_within, within_due, first_missing, first_unique}

pub returns-clause-due : goal.returns-clause-due
returns-clause-due c = λ log stored held t n s frontier good st fr.
    (within_due log stored held t n s frontier good st fr, due_within log stored held t n s frontier good st fr)

pub returns-clause-named : goal.returns-clause-named
returns-clause-named c = first_missing

pub returns-clause-one : goal.returns-clause-one
returns-clause-one c = first_unique
