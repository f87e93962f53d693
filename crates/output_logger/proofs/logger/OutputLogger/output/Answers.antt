use Rattle.std.proofs.Common.{arith}
use Rattle.output_logger.proofs.logger.OutputLogger.output.Goals as goal

pub wait-requires-clause-early : goal.wait-requires-clause-early
wait-requires-clause-early c =
    rw (← c.self.view_is) (λ due.
    let f = c.frontier-frontier.result in
    let above = c.in-Some.ensures.above f c.frontier-frontier.ensures in
    let below = due c.in-Some.thread f c.frontier-frontier.ensures in
    omega arith)
