use Rattle.round_order.proofs.ClosedRounds.{closes}
use Rattle.round_order.proofs.laws.rounds_close.Goals as goal

pub returns : goal.returns
returns g c = λ m inputs threads moves past rs order q few played linked is count homes seats.
    closes m inputs threads moves past rs few played linked order is q count homes seats
