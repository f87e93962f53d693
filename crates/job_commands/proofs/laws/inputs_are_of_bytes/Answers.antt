use Rattle.job_commands.proofs.Recorded.{inputs_have_bytes}
use Rattle.job_commands.proofs.laws.inputs_are_of_bytes.Goals as goal

pub returns : goal.returns
returns g c = λ s packets. inputs_have_bytes s packets
