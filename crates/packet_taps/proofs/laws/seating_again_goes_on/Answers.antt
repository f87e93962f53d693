use Rattle.packet_taps.proofs.Placing.{stays_on, lost_later}
use Rattle.packet_taps.proofs.laws.seating_again_goes_on.Goals as goal

pub returns-clause-stays : goal.returns-clause-stays
returns-clause-stays g c = λ first rest old mid new s t. stays_on _ _ _ _ first rest old mid new s t

pub returns-clause-lost : goal.returns-clause-lost
returns-clause-lost g c = λ first rest old mid lost s t. lost_later _ _ _ _ first rest old mid lost s t
