use Rattle.pcap_io.proofs.Verdicts.{one_limit}
use Rattle.pcap_io.proofs.laws.one_limit.Goals as goal

pub returns : goal.returns
returns c = one_limit
