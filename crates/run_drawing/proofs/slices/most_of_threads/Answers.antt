use Rattle.run_drawing.proofs.Pieces.{most_next}
use Rattle.run_drawing.proofs.slices.most_of_threads.Goals as goal

pub threads-preserved : goal.threads-preserved
threads-preserved c =
    most_next c.threads.most c.most_of-most.result c.threads.thread c.args.threads c.args.notes.now
    c.in_ok-slices.slices c.as_slice.result.now _ c.threads-test.true c.threads.invariant c.in_ok-slices.ensures
    c.as_slice.ensures c.most_of-most.ensures
