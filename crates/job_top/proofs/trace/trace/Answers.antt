use Rattle.std.proofs.Common.{ap, rules, Err}
use Rattle.box_conf.specs.Kinds.{drop_register}
use Rattle.job_commands.specs.Run.{setting_for}
use Rattle.job_commands.specs.Words.{trace_names_of}
use Rattle.job_commands.proofs.Usual.{refused_answers, run_answers, stops_early}
use Rattle.job_top.specs.Trace.{trace_meaning}
use Rattle.job_top.proofs.Traced.{order_traced, stop_since, trace_ends, trace_refused, trace_usual, traced_since}
use Rattle.job_top.proofs.trace.trace.Goals as goal

-- its inputs are accepted

pub returns-in-Ok : goal.returns-in-Ok
returns-in-Ok g c =
    let names = trace_names_of c.args.names in
    let h = g.W.World.healthy c.args.world.now in
    let i = c.in-Ok.inputs in
    let reads = c.in-Ok.ensures in
    let does = c.trace_box.ensures in
    rw c.run_outcome.ensures
    (run_answers (trace_meaning names) (trace_usual names) _ g.W.World.shows g.W.World.ledger g.W.World.healthy c.args.world.now _
    reads.only_reads 1 c.trace_box.new.world reads.opened does.writes_files c.trace_box.result (search rules) does.cause
    (λ p q.
    let q1 = does.before p q in
    let a = g.W.World.shows p c.args.world.now in
    let b = g.W.World.shows p c.read_inputs.new.world in
    let e = g.W.World.shows p c.trace_box.new.world in
    let keeps = reads.keeps p q1 in
    let register = drop_register i.conf.kind in
    trace_ends h names i a e (reads.judged p q1) c.trace_box.result
    (λ ok fault. (does.cause fault).not_healthy (reads.only_reads.stays_healthy ok))
    (traced_since a b e keeps register (setting_for i) i.events names.table c.trace_box.result (does.whole p q))
    (λ l is. stop_since a b e keeps (setting_for i) i.events l (does.limit p q l is))
    (order_traced a b e keeps register (setting_for i) i.events names.table (does.in_order p q)))
    (λ p q. reads.before p (does.before p q)))

-- an input is refused

pub returns-in-Err : goal.returns-in-Err
returns-in-Err g c =
    let names = trace_names_of c.args.names in
    let h = g.W.World.healthy c.args.world.now in
    let is = c.in-Err.ensures in
    refused_answers (trace_meaning names) (trace_usual names) _ g.W.World.shows _ g.W.World.healthy _ _ is.only_reads
    c.in-Err.status
    is.quiet (λ e. is.cause (ap Err e))
    (λ p q. trace_refused h names c.in-Err.status (g.W.World.shows p c.args.world.now) is.quiet (is.stage p q)
    (is.judged p q)) is.stage
    (λ p q limit large at same. stops_early limit _ _ _ at same) is.keeps is.before
