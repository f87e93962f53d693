use Rattle.drill_report.proofs.Settled.{none_waiting}
use Rattle.drill_report.proofs.laws.what_was_all_released_waits_for_nothing.Goals as goal

pub returns : goal.returns
returns g c = λ steps released all. none_waiting steps released all
