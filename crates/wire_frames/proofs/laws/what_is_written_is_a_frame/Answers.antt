use Rattle.wire_frames.proofs.Whole.{is_written, begins_written}
use Rattle.wire_frames.proofs.laws.what_is_written_is_a_frame.Goals as goal

pub returns-clause-whole : goal.returns-clause-whole
returns-clause-whole c = is_written

pub returns-clause-front : goal.returns-clause-front
returns-clause-front c = begins_written
