use Rattle.handover_seal.proofs.Opened.{opens}
use Rattle.handover_seal.proofs.laws.sealed_texts_open.Goals as goal

pub returns : goal.returns
returns c = opens
