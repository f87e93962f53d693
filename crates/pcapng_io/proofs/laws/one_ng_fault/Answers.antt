use Rattle.pcapng_io.proofs.Verdicts.{one_ng_fault, ng_is_faultless}
use Rattle.pcapng_io.proofs.laws.one_ng_fault.Goals as goal

pub returns-clause-one : goal.returns-clause-one
returns-clause-one c = one_ng_fault

pub returns-clause-none : goal.returns-clause-none
returns-clause-none c = ng_is_faultless
