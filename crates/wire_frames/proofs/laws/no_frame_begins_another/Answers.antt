use Rattle.wire_frames.proofs.Whole.{no_shorter}
use Rattle.wire_frames.proofs.laws.no_frame_begins_another.Goals as goal

pub returns : goal.returns
returns c = no_shorter
