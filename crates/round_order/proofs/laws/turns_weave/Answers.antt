use Rattle.round_order.proofs.RisingThreads.{thread_rises, all_own}
use Rattle.round_order.proofs.TurnLemmas as drawn
use Rattle.round_order.proofs.laws.turns_weave.Goals as goal

pub returns : goal.returns
returns g c = λ m inputs threads past rs lists turns few linked marks are.
    drawn.turns_weave rs lists turns (λ t. all_own m inputs threads past rs few linked t (rs t) (linked.alone t))
    (thread_rises m inputs threads past rs few linked) marks are
