use Rattle.round_order.proofs.RisingPlaces as found
use Rattle.round_order.proofs.laws.places_rise.Goals as goal

pub returns : goal.returns
returns g c =
    λ m inputs threads past rs x r v few linked later. found.places_rise m inputs threads past rs few linked x r v later
