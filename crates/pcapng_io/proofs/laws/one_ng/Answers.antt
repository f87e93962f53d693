use Rattle.pcapng_io.proofs.Verdicts.{one_ng}
use Rattle.pcapng_io.proofs.laws.one_ng.Goals as goal

pub returns : goal.returns
returns c = one_ng
