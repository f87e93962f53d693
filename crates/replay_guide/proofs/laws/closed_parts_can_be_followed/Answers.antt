use Rattle.replay_guide.proofs.WorldTurns.{closed_can}
use Rattle.replay_guide.proofs.laws.closed_parts_can_be_followed.Goals as goal

pub returns : goal.returns
returns c = closed_can
