use Rattle.hand_faults.proofs.OneFault.{no_hand_fault, one_hand_fault}
use Rattle.hand_faults.proofs.SomeFault.{hand_fault_or_none}
use Rattle.hand_faults.proofs.laws.a_text_has_one_hand_fault.Goals as goal

pub returns-clause-either : goal.returns-clause-either
returns-clause-either g c = λ s text. hand_fault_or_none s text

pub returns-clause-one : goal.returns-clause-one
returns-clause-one g c = one_hand_fault

pub returns-clause-none : goal.returns-clause-none
returns-clause-none g c = no_hand_fault
