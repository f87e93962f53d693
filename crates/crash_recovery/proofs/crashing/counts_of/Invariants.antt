use Rattle.std.proofs.Common.{◌≡◌, map, take}
use Rattle.crash_recovery.proofs.crashing.counts_of.Given as goal

-- there are the counts of the threads before this one
abbrev pub invariant-loop-thread : goal.invariant-loop-thread
invariant-loop-thread g l = l.counts ≡ map (λ part. part.counts) (take l.thread l.master.threads)
