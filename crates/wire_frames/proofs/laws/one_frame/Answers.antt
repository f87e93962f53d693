use Rattle.wire_frames.proofs.Whole.{same_frame}
use Rattle.wire_frames.proofs.laws.one_frame.Goals as goal

pub returns : goal.returns
returns c = same_frame
