use Rattle.plan_script.proofs.Performing.{scripts_perform}
use Rattle.plan_script.proofs.laws.scripts_of_plans_are_performed.Goals as goal

pub returns : goal.returns
returns g c =
    record { perform = λ s w orders lines events new script. scripts_perform s w orders lines events new script }
