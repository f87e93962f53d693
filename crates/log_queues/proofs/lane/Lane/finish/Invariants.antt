use Rattle.std.proofs.Common.{◌≡◌, ◌++◌, true}
use Rattle.crossbeam_queue.specs.Passes.{view, IsPassOf}
use Rattle.log_queues.specs.Lanes.{end}
use Rattle.log_queues.proofs.lane.Lane.finish.Given as goal

abbrev pub invariant-loop : goal.invariant-loop
invariant-loop g l = record {
  of : IsPassOf l.self-inside.queue l.pass;
  knows : view l.pass ≡ end true true l.fn.sender.items (l.fn.receiver.items ++ l.left);
}
