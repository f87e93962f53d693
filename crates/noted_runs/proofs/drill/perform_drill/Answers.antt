use Rattle.std.proofs.Common.{◌≡◌, ap, length, ◌∙◌, rules, Err}
use Rattle.recovery_world.specs.World.{Setting}
use Rattle.event_replies.specs.declared.reply.Stop.TheVariants as stop
use Rattle.drill_report.specs.Events.{calm_events, drill_events}
use Rattle.noted_runs.specs.Drill.{setting_of}
use Rattle.noted_runs.specs.declared.drill.running.Frame.{Frame}
use Rattle.noted_runs.specs.Drilled.{EndsSo}
use Rattle.noted_runs.specs.Ends.{HasEnded}
use Rattle.noted_runs.proofs.Compared.{drill_stopped, drilled_so, ended_here, ends_there, halted_here}
use Rattle.noted_runs.proofs.drill.perform_drill.Goals as goal

pub returns-in-Ok : goal.returns-in-Ok
returns-in-Ok g c =
    let run = c.args.run in
    let m = g.P.Program.meaning c.args.program.now in
    let frame : Frame = record { threads = run.threads; tags = run.tags; seed = run.seed; unit = run.unit } in
    let drill = c.as_slice-drill.ensures ∙ c.in_ok-events.ensures ∙ ap (drill_events run.every) c.len-count.ensures in
    let calm = c.as_slice-others.ensures ∙ c.in_ok-calm.ensures ∙ ap (calm_events run.every) c.len-count.ensures in
    let beside = c.in_ok-beside-in-Ok.beside in
    drilled_so c.compare_runs.result (setting_of m run) run.every run.table
    (λ (s : Setting g.row.P-Value.Denot).
    HasEnded s (drill_events run.every (length s.packets)) c.in-Ok.ended c.in_ok-ran.ran.outputs)
    (λ (s : Setting g.row.P-Value.Denot).
    EndsSo s (calm_events run.every (length s.packets)) beside.outputs beside.end) c.compare_runs.ensures
    (ended_here m frame run.packets _ _ c.in_ok-ran.ran.outputs _ drill c.in-Ok.ended c.in-Ok.is
    c.in_ok-ran.ensures.ended)
    (ends_there m frame run.packets _ _ beside.outputs beside.end calm _
    (c.in_ok-again.ensures ∙ c.as_slice-packets.ensures) c.in_ok-beside-in-Ok.ensures.ended
    c.in_ok-beside-in-Ok.ensures.halted)

pub returns-in-Err-Limit : goal.returns-in-Err-Limit
returns-in-Err-Limit g c =
    let run = c.args.run in
    let m = g.P.Program.meaning c.args.program.now in
    let frame : Frame = record { threads = run.threads; tags = run.tags; seed = run.seed; unit = run.unit } in
    let drill = c.as_slice-drill.ensures ∙ c.in_ok-events.ensures ∙ ap (drill_events run.every) c.len-count.ensures in
    let at : c.in_ok-ran.ran.end ≡ Err (stop.Limit c.in-Err-Limit.limit) = search rules in
    drill_stopped (setting_of m run) run.every run.table c.in-Err-Limit.limit c.in_ok-ran.ran.outputs
    (halted_here m frame run.packets _ _ c.in_ok-ran.ran.outputs c.in_ok-ran.ran.end drill c.in-Err-Limit.limit
    (c.in_ok-ran.ensures.halted c.in-Err-Limit.limit at))
