use Rattle.handover_world.proofs.OneFault.{judged, not_both, one_fault}
use Rattle.handover_world.proofs.laws.images_have_one_fault.Goals as goal

pub returns-clause-either : goal.returns-clause-either
returns-clause-either g c = judged

pub returns-clause-not_both : goal.returns-clause-not_both
returns-clause-not_both g c = not_both

pub returns-clause-one : goal.returns-clause-one
returns-clause-one g c = one_fault
