use Rattle.std.proofs.Common.{length, arith, append-nil, length-drop}
use Rattle.std.proofs.Math.Seq.{take-add}
use Rattle.std.proofs.lemmas.Slice.{between_to_end}
use Rattle.world_io.proofs.GoingOn.{GoesOn-trans}
use Rattle.world_io.proofs.all.write_all.Goals as goal

pub loop-done-preserved : goal.loop-done-preserved
loop-done-preserved g c =
    let done = c.loop-done.done in
    let bytes = c.args.bytes.now in
    let took = c.in-Took.ensures in
    let rest = between_to_end bytes done (length bytes) (omega arith) in
    let writes = rw rest at took.writes in
    let count = rw rest at took.count in
    record {
      writes = rw take-add (g.met.K.Sink.writes_more _ _ _ _ _ c.loop-done.invariant.writes writes);
      within = omega (arith, count.0, length-drop done bytes);
      goes_on = GoesOn-trans g.K.Sink.faults g.K.Sink.healthy _ _ _ c.loop-done.invariant.goes_on c.put.ensures.goes_on;
    }

pub returns-in-Failed-clause-writes : goal.returns-in-Failed-clause-writes
returns-in-Failed-clause-writes g c =
    let both = g.met.K.Sink.writes_more _ _ _ _ _ c.loop-done.invariant.writes c.in-Failed.ensures.writes in
    (rw append-nil at both, omega arith)

pub returns-in-NoMemory-clause-writes : goal.returns-in-NoMemory-clause-writes
returns-in-NoMemory-clause-writes g c =
    let both = g.met.K.Sink.writes_more _ _ _ _ _ c.loop-done.invariant.writes c.in-NoMemory.ensures.writes in
    (rw append-nil at both, omega arith)
