use Rattle.round_join.proofs.NotedEvents.{noted_perform}
use Rattle.round_join.proofs.laws.noted_events_are_performed.Goals as goal

pub returns : goal.returns
returns g c = record { perform = noted_perform }
