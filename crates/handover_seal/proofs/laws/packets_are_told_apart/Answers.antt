use Rattle.handover_seal.proofs.Hashed.{told_apart}
use Rattle.handover_seal.proofs.laws.packets_are_told_apart.Goals as goal

pub returns : goal.returns
returns c = told_apart
