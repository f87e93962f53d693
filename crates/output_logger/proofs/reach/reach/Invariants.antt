use Rattle.std.proofs.Common.{◌-◌, ℕ, ◌<◌, ◌≤◌, IsSome}
use Rattle.access_log.specs.Held.{lane, entry_at}
use Rattle.output_logger.proofs.reach.reach.Given as goal

abbrev pub invariant-loop-reached : goal.invariant-loop-reached
invariant-loop-reached l = record {
  up : l.from ≤ l.reached;
  held : (n : ℕ) → l.from < n → n ≤ l.reached → IsSome (entry_at (lane l.held l.thread) n);
}

abbrev pub decreases-loop-reached : goal.decreases-loop-reached
decreases-loop-reached l = 18446744073709551615 - l.reached
