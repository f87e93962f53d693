use Rattle.tagged_box.proofs.InputBytes.{input_bytes}
use Rattle.tagged_box.proofs.laws.bytes_stand_behind_tags.Goals as goal

pub returns : goal.returns
returns c = input_bytes
