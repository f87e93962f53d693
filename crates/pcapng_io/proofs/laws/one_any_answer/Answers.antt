use Rattle.pcapng_io.proofs.Written.{one_any_answer}
use Rattle.pcapng_io.proofs.laws.one_any_answer.Goals as goal

pub returns : goal.returns
returns c = one_any_answer
