use Rattle.pcap_io.proofs.Verdicts.{written_is_capture}
use Rattle.pcap_io.proofs.laws.written_is_capture.Goals as goal

pub returns : goal.returns
returns c = written_is_capture
