use Rattle.snapshot_steps.proofs.TakingLemmas.{snap_moves}
use Rattle.snapshot_steps.proofs.snapshots.snap.Goals as goal

pub returns : goal.returns
returns g c =
    snap_moves g.P.Program.meaning _ _ c.take.new.self c.len-moves.result c.total.result c.entry_counts.result
    c.core.view_is c.if-not-core.false c.in_ok-take.ensures.taken c.take.ensures.stored c.len-moves.ensures
    c.entry_counts.ensures c.total.ensures.all c.total.ensures.total c.core.invariant.few_threads
    c.core.invariant.moves
