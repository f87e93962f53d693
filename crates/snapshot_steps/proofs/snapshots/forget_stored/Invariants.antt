use Rattle.link_store.specs.Sending.{ForgetsCovered}
use Rattle.snapshot_steps.proofs.snapshots.forget_stored.Given as goal

-- frames of entries of the threads before this one may be forgotten
abbrev pub invariant-loop-thread : goal.invariant-loop-thread
invariant-loop-thread l = ForgetsCovered l.initial.sent l.sent l.counts
