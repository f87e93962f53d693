use Rattle.balancer_runs.proofs.Serving.{sent_are_of_service, strays_are_of_none}
use Rattle.balancer_runs.proofs.laws.what_is_translated_is_of_the_service.Goals as goal

pub returns-clause-sent : goal.returns-clause-sent
returns-clause-sent c = sent_are_of_service

pub returns-clause-strays : goal.returns-clause-strays
returns-clause-strays c = strays_are_of_none
