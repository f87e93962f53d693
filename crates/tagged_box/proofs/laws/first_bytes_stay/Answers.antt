use Rattle.tagged_frames.specs.Tags.{behind_tag}
use Rattle.tagged_frames.proofs.TagLemmas.{with_behind_stays}
use Rattle.tagged_box.proofs.laws.first_bytes_stay.Goals as goal

pub returns : goal.returns
returns g c = λ m tags n p l same. with_behind_stays tags n p (m.out (behind_tag tags p) l) same
