use Rattle.std.proofs.Common.{◌∷◌, inr}
use Rattle.plain_machine.specs.History.{log_of}
use Rattle.plain_machine.proofs.Histories.{history_log, earlier_refl}
use Rattle.master_core.proofs.Holdings.{one_more_holds, one_more_held}
use Rattle.master_core.proofs.Moments.{holds_later}
use Rattle.master_core.proofs.laws.holding_one_more.Goals as goal

pub returns-clause-holds : goal.returns-clause-holds
returns-clause-holds g c = one_more_holds

pub returns-clause-now_held : goal.returns-clause-now_held
returns-clause-now_held g c = λ m inputs threads steps stored held new e f h holds here puts others.
    one_more_held (log_of steps) stored held new e f (history_log m inputs threads steps h) holds here puts others

pub returns-clause-grows_by_step : goal.returns-clause-grows_by_step
returns-clause-grows_by_step g c = λ m inputs threads x steps stored held h holds.
    holds_later m inputs threads (x ∷ steps) steps stored held h (inr (earlier_refl steps)) holds

pub returns-clause-grows : goal.returns-clause-grows
returns-clause-grows g c = λ m inputs threads now steps stored held h before holds.
    holds_later m inputs threads steps now stored held h before holds
