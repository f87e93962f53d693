use Rattle.tagged_box.specs.Tagged.{tagged_lawful}
use Rattle.tagged_box.proofs.laws.tagged_boxes_are_lawful.Goals as goal

pub returns : goal.returns
returns g c = λ p tags. tagged_lawful tags _ _ (g.met.P.Program.lawful p)
