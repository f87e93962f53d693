use Rattle.std.proofs.Common.{sym, ◌∙◌}
use Rattle.output_logger.proofs.KeptLemmas.{kept_empty, only_none}
use Rattle.output_logger.proofs.logger.OutputLogger.fence.Goals as goal

pub invariant_of-self : goal.invariant_of-self
invariant_of-self c =
    let kept = c.self.invariant in
    let held = c.closed_part-kept.ensures.threads in
    let rooms = c.give_up_rooms.ensures in
    kept_empty c.self.inside.threads c.closed_part-kept.new.self c.give_up_rooms.new.self
    c.clear.new.self.outputs.entries c.clear.new.self.index.keys c.clear.ensures.outputs c.clear.ensures.sorted
    (kept.counted ∙ sym held) (rooms.threads ∙ kept.threads ∙ sym held) (λ t n h. (rooms.each t).room n h)
    (only_none c.clear.new.self.index.keys c.clear.new.self.outputs.entries c.clear.ensures.index)

pub returns-clause-closed : goal.returns-clause-closed
returns-clause-closed c = rw (← c.self.view_is) c.closed_part-kept.ensures.closed
