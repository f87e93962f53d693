use Rattle.entry_order.proofs.laws.entries_are_in_order.Goals as goal
use Rattle.std.proofs.Common.{◌∙◌}
use Rattle.entry_order.proofs.Order.{stands_after, precedes_trans}
use Rattle.entry_order.proofs.Positions.{not_precedes_itself, thread_in_order, variable_in_order, earlier_precedes}
use Rattle.entry_order.proofs.Positions.{binds_thread, binds_variable, shares_sym}

pub returns-clause-after : goal.returns-clause-after
returns-clause-after c = stands_after

pub returns-clause-chains : goal.returns-clause-chains
returns-clause-chains c = precedes_trans

pub returns-clause-strict : goal.returns-clause-strict
returns-clause-strict c = not_precedes_itself

pub returns-clause-of_thread : goal.returns-clause-of_thread
returns-clause-of_thread c = thread_in_order

pub returns-clause-on_variable : goal.returns-clause-on_variable
returns-clause-on_variable c = variable_in_order

pub returns-clause-earlier_of_thread : goal.returns-clause-earlier_of_thread
returns-clause-earlier_of_thread c = λ log e f good h t. earlier_precedes log e f good h (binds_thread e f t)

pub returns-clause-earlier_on_variable : goal.returns-clause-earlier_on_variable
returns-clause-earlier_on_variable c =
    λ log e f good h b. earlier_precedes log e f good h (binds_variable e f (shares_sym f.what e.what ∙ b))
