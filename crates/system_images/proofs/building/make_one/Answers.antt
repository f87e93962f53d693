use Rattle.std.specs.Prelude.{OnOk}
use Rattle.system_parts.specs.Performing.{MovesOn}
use Rattle.system_images.specs.Building.{MakesOne}
use Rattle.system_images.proofs.BuildingLemmas.{makes_one, on_err, on_ok}
use Rattle.system_images.proofs.building.make_one.Goals as goal
use Rattle.system_images.proofs.building.make_one.Goals.{in-Ok, in-Err}

pub returns : goal.returns
returns g c =
    let m = g.P.Program.meaning c.args.core.now.program in
    elim c.match-step.branch as
    (λ _. OnOk c.match-step.result (MovesOn m (MakesOne c.args.plain) c.args.core.now c.step.new.core)) [
      | in-Ok w ↦ on_ok c.match-step.result _ (makes_one g.P.Program.meaning c.args.plain c.from.result
          w.in-Ok.field-0 c.args.core.now c.step.new.core c.from.ensures w.in-Ok.ensures.on)
      | in-Err w ↦ on_err c.match-step.result _ _ w.result-is
    ]
