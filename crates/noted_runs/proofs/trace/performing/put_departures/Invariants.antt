use Rattle.std.proofs.Common.{◌≡◌, ◌++◌, replicate}
use Rattle.noted_runs.proofs.trace.performing.put_departures.Given as goal

abbrev pub invariant-loop : goal.invariant-loop
invariant-loop l = l.departures ≡ l.fn.departures ++ replicate l.counter l.departure
