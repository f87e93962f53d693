use Rattle.run_drawing.proofs.Pieces.{lanes_next}
use Rattle.run_drawing.proofs.ground.put_thread_lanes.Goals as goal

pub lanes-preserved : goal.lanes-preserved
lanes-preserved c =
    lanes_next c.args.many c.lanes.thread c.args.threads c.lanes.out c.put_thread_lane.new.out _ c.lanes-test.true
    c.lanes.invariant c.in_ok-put_thread_lane.ensures
