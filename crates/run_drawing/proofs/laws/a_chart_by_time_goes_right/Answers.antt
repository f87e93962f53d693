use Rattle.run_drawing.proofs.TimeCurves.{curves_right}
use Rattle.run_drawing.proofs.laws.a_chart_by_time_goes_right.Goals as goal

pub returns : goal.returns
returns c = curves_right
