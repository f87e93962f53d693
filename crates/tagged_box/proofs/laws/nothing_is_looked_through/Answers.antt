use Rattle.tagged_box.proofs.Nothing.{nothing_looked_through}
use Rattle.tagged_box.proofs.laws.nothing_is_looked_through.Goals as goal

pub returns : goal.returns
returns g c = nothing_looked_through
