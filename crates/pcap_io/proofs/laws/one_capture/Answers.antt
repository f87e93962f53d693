use Rattle.pcap_io.proofs.Verdicts.{same_capture}
use Rattle.pcap_io.proofs.laws.one_capture.Goals as goal

pub returns : goal.returns
returns c = same_capture
