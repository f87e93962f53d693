use Rattle.std.proofs.Common.{ℕ, ◌-◌, ◌^◌, ◌<◌, ◌≤◌, IsSome}
use Rattle.access_log.specs.Held.{entry_at}
use Rattle.access_log.proofs.lane.frontier_after.Given as goal

abbrev pub invariant-loop-frontier : goal.invariant-loop-frontier
invariant-loop-frontier l = record {
  from : l.from ≤ l.frontier;
  held : (n : ℕ) → l.from < n → n ≤ l.frontier → IsSome (entry_at l.entries n);
}

abbrev pub decreases-loop-frontier : goal.decreases-loop-frontier
decreases-loop-frontier l = 2 ^ 64 - l.frontier
