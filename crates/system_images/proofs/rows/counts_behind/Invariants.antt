use Rattle.recovery_world.specs.World.{Ended as EndedEpoch}
use Rattle.system_images.specs.Judging.{HasRows}
use Rattle.system_images.proofs.RowsLemmas.{CountsTo}
use Rattle.system_images.proofs.rows.counts_behind.Given as goal

-- the counts of the threads before this one are there
abbrev pub invariant-loop-thread : goal.invariant-loop-thread
invariant-loop-thread l = (x : EndedEpoch) → HasRows l.threads l.before l.rows x → CountsTo l.thread x l.counts
