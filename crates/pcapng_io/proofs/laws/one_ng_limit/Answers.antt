use Rattle.pcapng_io.proofs.Verdicts.{one_ng_limit}
use Rattle.pcapng_io.proofs.laws.one_ng_limit.Goals as goal

pub returns : goal.returns
returns c = one_ng_limit
