use Rattle.entry_order.proofs.laws.closed_sets_go_back.Goals as goal
use Rattle.std.proofs.Common.{◌∙◌}
use Rattle.entry_order.proofs.Order.{closed_down}
use Rattle.entry_order.proofs.Positions.{closed_earlier, binds_thread, binds_variable, shares_sym}

pub returns-clause-predecessors : goal.returns-clause-predecessors
returns-clause-predecessors c = closed_down

pub returns-clause-of_thread : goal.returns-clause-of_thread
returns-clause-of_thread c =
    λ log set e f good closed hf h t. closed_earlier log set e f good closed hf h (binds_thread e f t)

pub returns-clause-on_variable : goal.returns-clause-on_variable
returns-clause-on_variable c = λ log set e f good closed hf h b.
    closed_earlier log set e f good closed hf h (binds_variable e f (shares_sym f.what e.what ∙ b))
