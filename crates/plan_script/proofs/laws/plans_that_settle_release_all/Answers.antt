use Rattle.plan_script.proofs.SettledPlans.{plan_settled}
use Rattle.plan_script.proofs.laws.plans_that_settle_release_all.Goals as goal

pub returns : goal.returns
returns g c = record {
  settle = λ s lines events world report released schedule script l.
      plan_settled s lines events world report released schedule script l;
}
