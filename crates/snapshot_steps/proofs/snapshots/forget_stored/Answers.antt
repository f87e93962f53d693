use Rattle.output_releases.proofs.FromSystemParts.{covers_none, covers_more}
use Rattle.snapshot_steps.proofs.snapshots.forget_stored.Goals as goal

pub loop-thread-init : goal.loop-thread-init
loop-thread-init c = covers_none _ _

pub loop-thread-preserved : goal.loop-thread-preserved
loop-thread-preserved c =
    covers_more _ _ _ _ c.loop-thread.thread _ c.get.ensures c.loop-thread.invariant c.forget_entries.ensures.forgets
