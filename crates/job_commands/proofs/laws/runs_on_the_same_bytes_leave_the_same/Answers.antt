use Rattle.job_commands.proofs.SameBytes.{same_bytes}
use Rattle.job_commands.proofs.laws.runs_on_the_same_bytes_leave_the_same.Goals as goal

pub returns : goal.returns
returns c = λ names other old new before after. same_bytes names other old new before after
