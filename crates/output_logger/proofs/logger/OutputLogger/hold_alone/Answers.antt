use Rattle.output_logger.proofs.KeptLemmas.{kept_alone}
use Rattle.output_logger.proofs.logger.OutputLogger.hold_alone.Goals as goal

pub invariant_of-self-2 : goal.invariant_of-self-2
invariant_of-self-2 c =
    let s = c.self.inside in
    kept_alone s.threads s.held c.add.new.self s.released s.waiting.outputs.entries s.waiting.index.keys
    c.self.invariant (rw (← c.self.view_is) at c.requires.none) c.in_ok-_added.ensures.threads
