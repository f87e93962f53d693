use Rattle.round_order.proofs.WovenSteps.{weaves}
use Rattle.round_order.proofs.WovenLines.{woven_order}
use Rattle.round_order.proofs.RisingThreads.{thread_rises, all_own, beyond}
use Rattle.round_order.proofs.WovenThere.{woven_there}
use Rattle.round_order.proofs.WovenOnce.{woven_once}
use Rattle.round_order.proofs.laws.receipts_weave.Goals as goal

pub returns-clause-weave : goal.returns-clause-weave
returns-clause-weave g c = λ m inputs threads moves past rs order few played linked is.
    weaves m inputs threads moves past rs few played linked order is

pub returns-clause-woven : goal.returns-clause-woven
returns-clause-woven g c = λ rs order w. woven_order rs order w

pub returns-clause-there : goal.returns-clause-there
returns-clause-there g c = λ m inputs threads past rs few linked.
    woven_there threads rs (λ t. all_own m inputs threads past rs few linked t (rs t) (linked.alone t))
    (beyond m inputs threads past rs few linked) (thread_rises m inputs threads past rs few linked)

pub returns-clause-one : goal.returns-clause-one
returns-clause-one g c = λ rs order other a b. woven_once rs order other a b
