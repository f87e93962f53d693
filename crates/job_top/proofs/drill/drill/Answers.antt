use Rattle.std.proofs.Common.{ap, rules, Err}
use Rattle.job_commands.specs.Words.{drill_names_of}
use Rattle.job_commands.proofs.Usual.{refused_answers, run_answers, stops_early}
use Rattle.job_top.specs.Drill.{drill_meaning, drill_outputs, drill_setting, has_drop_table}
use Rattle.job_top.proofs.Drills.{drill_ends, drill_refused, drill_usual, drilled_since, inputs_accepted, limit_since}
use Rattle.job_top.proofs.Drills.{order_since}
use Rattle.job_top.proofs.drill.drill.Goals as goal

-- its inputs are accepted

pub returns-in-Ok : goal.returns-in-Ok
returns-in-Ok g c =
    let names = drill_names_of c.args.names in
    let h = g.W.World.healthy c.args.world.now in
    let i = c.in-Ok.inputs in
    let reads = c.in-Ok.ensures in
    let does = c.drill_box.ensures in
    rw c.run_outcome.ensures
    (run_answers (drill_meaning names) (drill_usual names) _ g.W.World.shows g.W.World.ledger g.W.World.healthy c.args.world.now _
    reads.only_reads 2 c.drill_box.new.world reads.opened does.writes_files c.drill_box.result (search rules) does.cause
    (λ p q.
    let q1 = does.before p q in
    let a = g.W.World.shows p c.args.world.now in
    let b = g.W.World.shows p c.read_first_inputs.new.world in
    let e = g.W.World.shows p c.drill_box.new.world in
    let keeps = reads.keeps p q1 in
    let s = drill_setting names i in
    let table = has_drop_table i.conf.kind in
    drill_ends h names i a e (inputs_accepted h names i a (reads.judged p q1)) c.drill_box.result
    (λ ok fault. (does.cause fault).not_healthy (reads.only_reads.stays_healthy ok))
    (drilled_since a b e keeps s names.every table (drill_outputs names) c.drill_box.result (does.whole p q))
    (λ l is. limit_since a b e keeps s names.every (drill_outputs names) l (does.limit p q l is))
    (order_since a b e keeps s names.every table (drill_outputs names) (does.in_order p q)))
    (λ p q. reads.before p (does.before p q)))

-- an input is refused

pub returns-in-Err : goal.returns-in-Err
returns-in-Err g c =
    let names = drill_names_of c.args.names in
    let h = g.W.World.healthy c.args.world.now in
    let is = c.in-Err.ensures in
    refused_answers (drill_meaning names) (drill_usual names) _ g.W.World.shows _ g.W.World.healthy _ _ is.only_reads
    c.in-Err.status
    is.quiet (λ e. is.cause (ap Err e))
    (λ p q. drill_refused h names c.in-Err.status (g.W.World.shows p c.args.world.now) (is.judged p q)) is.stage
    (λ p q limit large at same. stops_early limit _ _ _ at same) is.keeps is.before
