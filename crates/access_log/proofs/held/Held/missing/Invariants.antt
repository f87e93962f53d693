use Rattle.std.proofs.Common.{ℕ, ◌<◌, ◌≤◌, slice_index}
use Rattle.access_log.specs.Held.{lane, IsFrontier}
use Rattle.access_log.proofs.held.Held.missing.Given as goal

abbrev pub invariant-loop-thread : goal.invariant-loop-thread
invariant-loop-thread l = (w f : ℕ) → w < l.thread → IsFrontier (lane l.self w) f → slice_index l.stamp w ≤ f
