use Rattle.std.proofs.Common.{◌≡◌, [], replicate}
use Rattle.noted_runs.proofs.trace.places.no_places.Given as goal

abbrev pub invariant-loop : goal.invariant-loop
invariant-loop l = l.lists.items ≡ replicate l.counter []
