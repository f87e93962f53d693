use Rattle.run_drawing.proofs.TimeCurves.{curves_end}
use Rattle.run_drawing.proofs.laws.a_chart_by_time_has_all_counts.Goals as goal

pub returns : goal.returns
returns c = curves_end
