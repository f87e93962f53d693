use Rattle.std.proofs.Common.{◌∙◌, ◌≡◌, List, ap, refl, subst}
use Rattle.recovery_world.specs.declared.event.Event.{Event}
use Rattle.run_writes.specs.Run.{setting_of}
use Rattle.event_replies.specs.declared.reply.Stop.{Stop}
use Rattle.event_replies.specs.declared.reply.Stop.TheVariants as stop
use Rattle.plain_text.specs.declared.limit.Limit.{Limit}
use Rattle.box_program.specs.declared.lent.Lent.{Lent}
use Rattle.noted_runs.specs.TraceGoing.{HasAllGone, IsHalted}
use Rattle.noted_runs.proofs.TracingLemmas.{halted_comes, new_somewhere, new_stands, steered_so}
use Rattle.noted_runs.proofs.TracePerformed.{failed}
use Rattle.noted_runs.proofs.trace.tracing.trace_run.Goals as goal

pub run_events-requires-clause-somewhere : goal.run_events-requires-clause-somewhere
run_events-requires-clause-somewhere g c κs within =
    new_somewhere (λ (lent : Lent g.row.P.Denot). g.P.Program.meaning lent.program.now) _
    (setting_of (g.P.Program.meaning c.args.program.now) c.args.run) c.in_ok-system.system
    c.in_ok-system.ensures.program c.in_ok-system.ensures.stands

pub returns-in_ok-texts-in-Ok : goal.returns-in_ok-texts-in-Ok
returns-in_ok-texts-in-Ok g c =
    let s = setting_of (g.P.Program.meaning c.args.program.now) c.args.run in
    c.in_ok-texts-in-Ok.ensures s c.args.run.events refl
    (steered_so s c.in_ok-packets.packets c.in_ok-steered.steered (c.in_ok-packets.ensures ∙ c.as_slice.ensures)
    c.in_ok-steered.ensures.inputs c.in_ok-steered.ensures.turns)
    (subst (λ (l : List Event). HasAllGone s l c.in-Ok.gone) (c.as_slice-2.ensures ∙ c.in_ok-push.ensures.ok)
    (c.in-Ok.ensures.gone s refl
    (new_stands (λ (lent : Lent g.row.P.Denot). g.P.Program.meaning lent.program.now) _ s c.in_ok-system.system
    c.in_ok-system.ensures.program c.in_ok-system.ensures.stands)))

pub returns-in-Err : goal.returns-in-Err
returns-in-Err g c =
    let s = setting_of (g.P.Program.meaning c.args.program.now) c.args.run in
    halted_comes c.args.register s c.args.run.events c.halt.result c.in-Err.stop c.halt.ensures
    (λ (limit : Limit) (e : c.in-Err.stop ≡ stop.Limit limit).
    subst (λ (l : List Event). IsHalted s l limit) (c.as_slice-2.ensures ∙ c.in_ok-push.ensures.ok)
    (c.in-Err.ensures.limit limit (ap (λ (x : Stop). failed x) e) s
    (new_stands (λ (lent : Lent g.row.P.Denot). g.P.Program.meaning lent.program.now) _ s c.in_ok-system.system
    c.in_ok-system.ensures.program c.in_ok-system.ensures.stands)))
