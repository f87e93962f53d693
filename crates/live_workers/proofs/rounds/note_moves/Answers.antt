use Rattle.std.proofs.Common.{ap, ◌∙◌, Err}
use Rattle.live_workers.proofs.rounds.note_moves.Goals as goal

pub returns-in-Err-Limit-clause-stops : goal.returns-in-Err-Limit-clause-stops
returns-in-Err-Limit-clause-stops g c = λ s w p round seats q raced.
    let k = c.note_round.ensures.limit c.in-Err-Limit.limit c.in-Err-Limit.next
    (c.in-Err-Limit.is ∙ ap (λ e. Err e) c.in-Err-Limit.field-0-is) s w p round seats q raced in
    (k.steps, k.woven, k.at)
