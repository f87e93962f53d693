use Rattle.run_drawing.proofs.Pieces.{floors_next}
use Rattle.run_drawing.proofs.bars.put_each_floor.Goals as goal

pub floors-preserved : goal.floors-preserved
floors-preserved c =
    floors_next c.args.most c.floors.thread c.args.threads c.args.notes.now c.floors.out c.put_floor.new.out _
    c.floors-test.true c.floors.invariant c.in_ok-put_floor.ensures
