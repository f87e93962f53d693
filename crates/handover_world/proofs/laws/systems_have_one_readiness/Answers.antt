use Rattle.handover_world.proofs.Readiness.{readiness_there, readiness_one, ready_means}
use Rattle.handover_world.proofs.laws.systems_have_one_readiness.Goals as goal

pub returns-clause-there : goal.returns-clause-there
returns-clause-there g c = λ s w h. readiness_there w s h

pub returns-clause-one : goal.returns-clause-one
returns-clause-one g c = readiness_one

pub returns-clause-ready : goal.returns-clause-ready
returns-clause-ready g c = ready_means
