use Rattle.std.proofs.Common.{◌≡◌, [], replicate}
use Rattle.noted_runs.proofs.trace.following.no_inputs.Given as goal

abbrev pub invariant-loop : goal.invariant-loop
invariant-loop l = l.lists.items ≡ replicate l.counter []
