use Rattle.run_drawing.proofs.OverviewWidth.{overview_wide, overview_within}
use Rattle.run_drawing.proofs.laws.an_overview_is_1300_wide.Goals as goal

pub returns-clause-width : goal.returns-clause-width
returns-clause-width c = overview_wide

pub returns-clause-within : goal.returns-clause-within
returns-clause-within c = overview_within
