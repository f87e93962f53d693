use Rattle.std.proofs.Common.{ap, rules, Err}
use Rattle.job_commands.specs.Run.{setting_for}
use Rattle.job_commands.specs.Words.{picture_names_of}
use Rattle.job_commands.proofs.Usual.{refused_answers, run_answers, stops_early}
use Rattle.job_top.specs.Picture.{picture_meaning}
use Rattle.job_top.proofs.Pictured.{order_pictured, picture_ends, picture_usual, pictured_since, stop_since}
use Rattle.job_top.proofs.picture.picture.Goals as goal

-- its inputs are accepted

pub returns-in-Ok : goal.returns-in-Ok
returns-in-Ok g c =
    let names = picture_names_of c.args.names in
    let h = g.W.World.healthy c.args.world.now in
    let i = c.in-Ok.inputs in
    let reads = c.in-Ok.ensures in
    let does = c.draw_box.ensures in
    rw c.run_outcome.ensures
    (run_answers (picture_meaning names) (picture_usual names) _ g.W.World.shows g.W.World.ledger g.W.World.healthy
    c.args.world.now _
    reads.only_reads 1 c.draw_box.new.world reads.opened does.writes_files c.draw_box.result (search rules) does.cause
    (λ p q.
    let q1 = does.before p q in
    let a = g.W.World.shows p c.args.world.now in
    let b = g.W.World.shows p c.read_inputs.new.world in
    let e = g.W.World.shows p c.draw_box.new.world in
    let keeps = reads.keeps p q1 in
    picture_ends h names i a e (reads.judged p q1) c.draw_box.result
    (λ ok fault. (does.cause fault).not_healthy (reads.only_reads.stays_healthy ok))
    (pictured_since a b e keeps names.box_file (setting_for i) i.events names.picture c.draw_box.result
    (does.whole p q))
    (λ l is. stop_since a b e keeps (setting_for i) i.events l (does.limit p q l is))
    (order_pictured a b e keeps names.box_file (setting_for i) i.events names.picture (does.in_order p q)))
    (λ p q. reads.before p (does.before p q)))

-- an input is refused

pub returns-in-Err : goal.returns-in-Err
returns-in-Err g c =
    let names = picture_names_of c.args.names in
    let is = c.in-Err.ensures in
    refused_answers (picture_meaning names) (picture_usual names) _ g.W.World.shows _ g.W.World.healthy _ _
    is.only_reads c.in-Err.status
    is.quiet (λ e. is.cause (ap Err e))
    is.judged is.stage
    (λ p q limit large at same. stops_early limit _ _ _ at same) is.keeps is.before
