use Rattle.pcap_io.proofs.Verdicts.{written_is_read}
use Rattle.pcap_io.proofs.laws.written_is_read.Goals as goal

pub returns : goal.returns
returns c = written_is_read
