use Rattle.std.proofs.Common.{ap, inl, rules, subst, Err}
use Rattle.job_commands.specs.declared.status.Status.{Status}
use Rattle.job_commands.specs.declared.status.Status.TheVariants as status
use Rattle.job_commands.specs.Live.{JudgesLiveFiles}
use Rattle.job_commands.specs.Words.{live_names_of}
use Rattle.job_commands.proofs.LiveFiles.{live_says}
use Rattle.job_commands.proofs.Usual.{refused_answers, run_answers}
use Rattle.job_top.specs.Live.{live_meaning, live_outputs, live_setting}
use Rattle.job_top.proofs.Lives.{limit_lived, live_ends, live_refused, live_usual, order_lived, whole_lived}
use Rattle.job_top.proofs.live.live.Goals as goal

-- its inputs are accepted

pub returns-in-Ok : goal.returns-in-Ok
returns-in-Ok g c =
    let may = g.C.Clock.may c.args.clock.now in
    let names = live_names_of c.args.names in
    let h = g.W.World.healthy c.args.world.now in
    let i = c.in-Ok.inputs in
    let reads = c.in-Ok.ensures in
    let does = c.live_box.ensures in
    rw c.run_outcome.ensures
    (run_answers (live_meaning may names) (live_usual may names) _ g.W.World.shows g.W.World.ledger g.W.World.healthy
    c.args.world.now _
    reads.only_reads 3 c.live_box.new.world reads.opened does.writes_files c.live_box.result (search rules) does.cause
    (λ p q.
    let q1 = does.before p q in
    let a = g.W.World.shows p c.args.world.now in
    let b = g.W.World.shows p c.read_live_inputs.new.world in
    let e = g.W.World.shows p c.live_box.new.world in
    let keeps = reads.keeps p q1 in
    let s = live_setting i in
    live_ends h may names i a e (reads.judged p q1) c.live_box.result
    (λ ok fault. (does.cause fault).not_healthy (reads.only_reads.stays_healthy ok))
    (whole_lived a b e keeps s may i.plan (live_outputs names) c.live_box.result (does.whole p q))
    (λ l is. limit_lived a b e keeps s i.plan (live_outputs names) l (does.limit p q l is))
    (order_lived a b e keeps s i.plan (live_outputs names) (does.in_order p q)))
    (λ p q. reads.before p (does.before p q)))

-- an input is refused

pub returns-in-Err : goal.returns-in-Err
returns-in-Err g c =
    let may = g.C.Clock.may c.args.clock.now in
    let names = live_names_of c.args.names in
    let h = g.W.World.healthy c.args.world.now in
    let is = c.in-Err.ensures in
    refused_answers (live_meaning may names) (live_usual may names) _ g.W.World.shows _ g.W.World.healthy _ _
    is.only_reads c.in-Err.status
    is.quiet (λ e. is.cause (ap Err e))
    (λ p q. live_refused h names c.in-Err.status (g.W.World.shows p c.args.world.now) (is.judged p q)) is.stage
    (λ p q limit large at same.
    let a = g.W.World.shows p c.args.world.now in
    let judged = subst (λ (s : Status). JudgesLiveFiles h names (λ inputs other. ⊥) s a) large (is.judged p q) in
    inl (same, live_says h names a (status.TooLarge limit) judged)) is.keeps is.before
