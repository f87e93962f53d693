use Rattle.master_core.proofs.StandingBounds.{standing_bounded}
use Rattle.master_core.proofs.bounds.standing_masters_are_bounded.Goals as goal

pub returns : goal.returns
returns g c = λ m inputs threads moves steps q. standing_bounded m inputs threads moves steps q
