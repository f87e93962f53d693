use Rattle.std.proofs.Common.{ap, rules, Err}
use Rattle.job_commands.specs.Run.{outputs_of, setting_for}
use Rattle.job_commands.specs.Words.{names_of}
use Rattle.job_commands.proofs.Outcomes.{begun_since, stopped_since, whole_since}
use Rattle.job_commands.proofs.Usual.{refused_answers, run_answers, stops_early}
use Rattle.job_top.specs.Run.{run_meaning}
use Rattle.job_top.proofs.RunAnswers.{run_ends, run_usual}
use Rattle.job_top.proofs.top.run.Goals as goal

-- its inputs are accepted

pub returns-in-Ok : goal.returns-in-Ok
returns-in-Ok g c =
    let names = names_of c.args.names in
    let h = g.W.World.healthy c.args.world.now in
    let i = c.in-Ok.inputs in
    let reads = c.in-Ok.ensures in
    let does = c.run_box.ensures in
    rw c.run_outcome.ensures
    (run_answers (run_meaning names) (run_usual names) _ g.W.World.shows g.W.World.ledger g.W.World.healthy c.args.world.now _
    reads.only_reads 2 c.run_box.new.world reads.opened does.writes_files c.run_box.result (search rules) does.cause
    (λ p q.
    let q1 = does.before p q in
    let a = g.W.World.shows p c.args.world.now in
    let b = g.W.World.shows p c.read_inputs.new.world in
    let e = g.W.World.shows p c.run_box.new.world in
    let keeps = reads.keeps p q1 in
    run_ends h names i a e (reads.judged p q1) c.run_box.result
    (λ ok fault. (does.cause fault).not_healthy (reads.only_reads.stays_healthy ok))
    (whole_since a b e keeps (setting_for i) (outputs_of names) i.events c.run_box.result (does.whole p q))
    (λ l is. stopped_since a b e keeps (setting_for i) (outputs_of names) i.events l (does.limit p q l is))
    (begun_since a b e keeps (setting_for i) (outputs_of names) i.events (does.in_order p q)))
    (λ p q. reads.before p (does.before p q)))

-- an input is refused

pub returns-in-Err : goal.returns-in-Err
returns-in-Err g c =
    let names = names_of c.args.names in
    let is = c.in-Err.ensures in
    refused_answers (run_meaning names) (run_usual names) _ g.W.World.shows _ g.W.World.healthy _ _ is.only_reads c.in-Err.status
    is.quiet (λ e. is.cause (ap Err e))
    is.judged is.stage
    (λ p q limit large at same. stops_early limit _ _ _ at same) is.keeps is.before
