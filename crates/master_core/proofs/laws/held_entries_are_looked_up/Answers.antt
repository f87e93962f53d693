use Rattle.master_core.proofs.HeldEntries.{held_at, at_held, held_named}
use Rattle.master_core.proofs.laws.held_entries_are_looked_up.Goals as goal

pub returns-clause-looked_up : goal.returns-clause-looked_up
returns-clause-looked_up c = λ held e. (held_at held e, λ r. at_held held e r.0 r.1 r.2 r.3 r.4)

pub returns-clause-of_log : goal.returns-clause-of_log
returns-clause-of_log c =
    λ log stored held e holds. (held_named log stored held e holds, λ r. at_held held e e.thread e.number r.0 r.1 r.2)
