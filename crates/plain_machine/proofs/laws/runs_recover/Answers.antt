use Rattle.plain_machine.proofs.Recoveries.{recover}
use Rattle.plain_machine.proofs.laws.runs_recover.Goals as goal

pub returns : goal.returns
returns g c = recover
