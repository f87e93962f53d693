use Rattle.world_told.proofs.Existing.{once_agree}
use Rattle.world_told.proofs.laws.opened_once_agree.Goals as goal

pub returns : goal.returns
returns c = once_agree
