use Rattle.output_logger.proofs.KeptLemmas.{waiting_named, waiting_among, waiting_apart}
use Rattle.output_logger.proofs.logger.OutputLogger.is_logger.Goals as goal

pub returns : goal.returns
returns c =
    let outputs = c.self.inside.waiting.outputs.entries in
    let kept = c.self.invariant in
    rw (← c.self.view_is) (record {
      held = c.is_held_set.ensures;
      none_due = λ o among due. let w = waiting_among outputs kept.sorted o among in kept.none_due w.0 o w.1 due;
      fresh = λ t n named marked.
          c.is_apart.ensures t n ((kept.awaited t n).1 ((waiting_named outputs kept.sorted t n).1 named)) marked;
      apart = waiting_apart outputs kept.sorted kept.apart;
    })
