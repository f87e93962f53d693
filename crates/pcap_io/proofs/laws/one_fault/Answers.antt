use Rattle.pcap_io.proofs.Verdicts.{one_fault, capture_is_faultless}
use Rattle.pcap_io.proofs.laws.one_fault.Goals as goal

pub returns-clause-one : goal.returns-clause-one
returns-clause-one c = one_fault

pub returns-clause-none : goal.returns-clause-none
returns-clause-none c = capture_is_faultless
