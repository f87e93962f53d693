use Rattle.std.proofs.Common.{length}
use Rattle.drill_report.specs.Events.{crash_round, repeated, rounds}
use Rattle.noted_runs.proofs.Compared.{beside_ended, compared_here, drilled}
use Rattle.noted_runs.proofs.drill.compare_runs.Goals as goal

pub returns-in_ok-texts-in-Ok : goal.returns-in_ok-texts-in-Ok
returns-in_ok-texts-in-Ok g c s h calm =
    let beside = beside_ended s _ c.args.calm.outputs _ _ c.in-Ok.is calm in
    drilled s c.args.every c.args.table c.args.outputs c.args.ended h c.args.calm.outputs _
    c.first_difference-differs.result c.in_ok-texts-in-Ok.texts beside
    (compared_here _ _ _ _ c.first_difference-differs.result c.as_slice-released.ensures c.as_slice-beside.ensures
    c.first_difference-differs.ensures) c.in_ok-texts-in-Ok.ensures.report c.in_ok-texts-in-Ok.ensures.schedule
    c.in_ok-texts-in-Ok.ensures.fit_lines
    (c.what_was_all_released_waits_for_nothing.ensures h.leaves.steps h.leaves.world.released
    (c.settlings_release_all.ensures.script s
    (repeated (rounds c.args.every (length s.packets)) (crash_round c.args.every)) h.lines _ _ h.leaves).released)
