use Rattle.pcapng_io.proofs.Recorded.{ng_whole}
use Rattle.pcapng_io.proofs.laws.ng_is_recorded.Goals as goal

pub returns : goal.returns
returns c = ng_whole
