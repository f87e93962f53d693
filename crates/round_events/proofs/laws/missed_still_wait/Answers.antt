use Rattle.round_events.proofs.Waiting.{missed_still_wait}
use Rattle.round_events.proofs.laws.missed_still_wait.Goals as goal

pub returns : goal.returns
returns g c = λ s w guide rs order t u k given few sound guides linked is keep low up missing held.
    missed_still_wait s w guide rs few sound guides linked order is keep t u k given low up missing held
