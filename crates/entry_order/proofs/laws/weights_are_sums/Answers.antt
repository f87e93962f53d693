use Rattle.entry_order.proofs.laws.weights_are_sums.Goals as goal
use Rattle.entry_order.specs.Log.{PrecedesOrIs}
use Rattle.entry_order.proofs.Order.{stands_after, before_in}
use Rattle.entry_order.proofs.Weights.{weight_is_sum, count_unique, weight_falls, sum_below_list}

pub returns-clause-summed : goal.returns-clause-summed
returns-clause-summed c = weight_is_sum

pub returns-clause-one : goal.returns-clause-one
returns-clause-one c = λ log e n k a b. count_unique (λ f. PrecedesOrIs log f e) log n k a b

pub returns-clause-falls : goal.returns-clause-falls
returns-clause-falls c =
    λ log e f n k good p a b. weight_falls log e f n k good (before_in log e f (stands_after log e f good p)).1 p a b

pub returns-clause-of_list : goal.returns-clause-of_list
returns-clause-of_list c = sum_below_list
