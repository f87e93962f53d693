use Rattle.run_drawing.proofs.TimeCurves.{upright}
use Rattle.run_drawing.proofs.laws.no_count_changes_before_its_event.Goals as goal

pub returns : goal.returns
returns c = upright
