use Rattle.pcap_io.proofs.Verdicts.{one_answer}
use Rattle.pcap_io.proofs.laws.one_answer.Goals as goal

pub returns : goal.returns
returns c = one_answer
