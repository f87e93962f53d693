use Rattle.recovery_laws.proofs.EventOutcomes.{on_there}
use Rattle.recovery_laws.proofs.Existence.{comes_to}
use Rattle.recovery_laws.proofs.Scripts.{any_one, any_within, stops_one, stops_not, leaves_one, leaves_or_stops}
use Rattle.recovery_laws.proofs.Scripts.{stops_leave_one}
use Rattle.recovery_laws.proofs.scripts_come_to_one_thing.Goals as goal

pub returns-clause-performed : goal.returns-clause-performed
returns-clause-performed g c = λ s w ev to other freed rest new next h a b.
    let r = any_one s w ev to other freed rest new next h a b in (r.outcome_is, r.freed_is, r.new_is)

pub returns-clause-stopped : goal.returns-clause-stopped
returns-clause-stopped g c = stops_one

pub returns-clause-not_both : goal.returns-clause-not_both
returns-clause-not_both g c = stops_not

pub returns-clause-within : goal.returns-clause-within
returns-clause-within g c = any_within

pub returns-clause-files : goal.returns-clause-files
returns-clause-files g c = leaves_one

pub returns-clause-files_at_a_stop : goal.returns-clause-files_at_a_stop
returns-clause-files_at_a_stop g c = stops_leave_one

pub returns-clause-whole_or_stopped : goal.returns-clause-whole_or_stopped
returns-clause-whole_or_stopped g c = leaves_or_stops

pub returns-clause-something : goal.returns-clause-something
returns-clause-something g c = λ s w ev h low. comes_to s w ev h low

pub returns-clause-single : goal.returns-clause-single
returns-clause-single g c = λ s w ev h. on_there s w h ev
