use Rattle.replay_guide.proofs.WorldOrders.{names_by_weight, all_named}
use Rattle.replay_guide.proofs.laws.orders_are_by_weight.Goals as goal

pub returns-clause-by_weight : goal.returns-clause-by_weight
returns-clause-by_weight c =
    λ log stored guide names good low holds. names_by_weight log stored guide good low holds names

pub returns-clause-all : goal.returns-clause-all
returns-clause-all c = all_named
