use Rattle.handover_seal.proofs.Opened.{one_seal}
use Rattle.handover_seal.proofs.laws.texts_are_of_one_seal.Goals as goal

pub returns : goal.returns
returns c = one_seal
