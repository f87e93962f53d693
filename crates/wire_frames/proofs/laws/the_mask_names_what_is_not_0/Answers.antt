use Rattle.wire_frames.proofs.Stamps.{mask_of-bit}
use Rattle.wire_frames.proofs.laws.the_mask_names_what_is_not_0.Goals as goal

pub returns : goal.returns
returns c = mask_of-bit
