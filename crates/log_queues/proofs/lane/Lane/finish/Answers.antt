use Rattle.std.proofs.Common.{ap}
use Rattle.log_queues.proofs.Keeping.{merges, gets, totals}
use Rattle.log_queues.proofs.lane.Lane.finish.Goals as goal

pub absorb-requires-clause-rule : goal.absorb-requires-clause-rule
absorb-requires-clause-rule g c =
    merges _ _ _ _ (ap (λ v. v.puts) c.sender.invariant.1) (ap (λ v. v.takes) c.receiver.invariant.1)

pub pop_as-requires-clause-rule : goal.pop_as-requires-clause-rule
pop_as-requires-clause-rule g c = (
  gets _ _ (ap (λ v. v.takes) c.loop.invariant.knows),
  totals _ _ (ap (λ v. v.puts) c.loop.invariant.knows) (ap (λ v. v.takes) c.loop.invariant.knows),
)
