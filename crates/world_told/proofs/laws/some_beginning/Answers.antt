use Rattle.world_told.proofs.Existing.{honest_beginning}
use Rattle.world_told.proofs.laws.some_beginning.Goals as goal

pub returns : goal.returns
returns c = honest_beginning
