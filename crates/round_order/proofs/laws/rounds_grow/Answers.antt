use Rattle.round_order.proofs.GrownRounds.{private_moves, touch_moves, read_moves}
use Rattle.round_order.proofs.laws.rounds_grow.Goals as goal

pub returns-clause-private : goal.returns-clause-private
returns-clause-private g c =
    λ m inputs threads past rs part r round next one. private_moves m inputs threads past rs part r round next one

pub returns-clause-touch : goal.returns-clause-touch
returns-clause-touch g c = λ m inputs threads past rs v part x y r round next home t.
    touch_moves m inputs threads past rs part r round next v x y home t

pub returns-clause-read : goal.returns-clause-read
returns-clause-read g c = λ m inputs threads past rs v part x y r round next home t.
    read_moves m inputs threads past rs part r round next v x y home t
