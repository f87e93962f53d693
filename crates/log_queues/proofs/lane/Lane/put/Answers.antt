use Rattle.std.proofs.Common.{ap}
use Rattle.log_queues.proofs.Keeping.{sends, lasts}
use Rattle.log_queues.proofs.lane.Lane.put.Goals as goal

pub push_as-requires-clause-rule : goal.push_as-requires-clause-rule
push_as-requires-clause-rule g c =
    (sends _ _ _ _ (ap (λ v. v.puts) c.sender.invariant.1), lasts _ _ (ap (λ v. v.puts) c.sender.invariant.1))
