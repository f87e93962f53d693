use Rattle.std.proofs.Common.{◌∙◌, List, subst}
use Rattle.std.specs.Prelude.{IfOk}
use Rattle.recovery_world.specs.declared.event.Event.{Event}
use Rattle.run_writes.specs.Run.{setting_of}
use Rattle.box_program.specs.declared.lent.Lent.{Lent}
use Rattle.noted_runs.specs.PictureGoing.{HasGone}
use Rattle.noted_runs.specs.Noting.{IsHalted}
use Rattle.noted_runs.proofs.Drawn.{all_fed, new_stands}
use Rattle.noted_runs.proofs.picture.picturing.perform_run.Goals as goal

pub returns-clause-gone : goal.returns-clause-gone
returns-clause-gone g c =
    let s = setting_of (g.P.Program.meaning c.args.program.now) c.args.run in
    subst (λ (l : List Event). IfOk c.run_events.result (HasGone s l)) c.as_slice-2.ensures
    (c.run_events.ensures.gone s
    (all_fed s c.in_ok-packets.packets c.in_ok-inputs.inputs (c.in_ok-packets.ensures ∙ c.as_slice.ensures)
    c.in_ok-inputs.ensures)
    (new_stands (λ (lent : Lent g.row.P.Denot). g.P.Program.meaning lent.program.now) _ s c.in_ok-system.system
    c.in_ok-system.ensures.program c.in_ok-system.ensures.stands))

pub returns-clause-limit : goal.returns-clause-limit
returns-clause-limit g c limit e =
    let s = setting_of (g.P.Program.meaning c.args.program.now) c.args.run in
    subst (λ (l : List Event). IsHalted s l limit) c.as_slice-2.ensures
    (c.run_events.ensures.limit s
    (all_fed s c.in_ok-packets.packets c.in_ok-inputs.inputs (c.in_ok-packets.ensures ∙ c.as_slice.ensures)
    c.in_ok-inputs.ensures)
    (new_stands (λ (lent : Lent g.row.P.Denot). g.P.Program.meaning lent.program.now) _ s c.in_ok-system.system
    c.in_ok-system.ensures.program c.in_ok-system.ensures.stands) limit e)
