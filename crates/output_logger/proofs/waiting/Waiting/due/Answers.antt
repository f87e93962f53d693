use Rattle.std.proofs.Common.{slice_index, arith}
use Rattle.output_logger.proofs.ArrivalLemmas.{some_above, positive_in}
use Rattle.output_logger.proofs.waiting.Waiting.due.Goals as goal

pub returns : goal.returns
returns c = record {
  due = λ a. (
    λ h. c.loop-thread.invariant.due a h,
    λ due.
        let o = due.0 in
        let above = some_above o.stamp c.args.from.now (λ all. c.requires.waits a (o, due.1, all)) in
        let u = above.0 in
        let most = due.2 u in
        let within = positive_in c.args.reached.now u (omega arith) in
        let all = c.components-few.ensures.all in
        c.loop-thread.invariant.found u a (slice_index o.stamp u) (omega arith) (c.requires.indexed a u o due.1 above.1)
        above.1 due most,
  );
}
