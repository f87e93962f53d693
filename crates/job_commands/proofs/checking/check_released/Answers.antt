use Rattle.std.proofs.Common.{ap, sym, inl, inr, rules, Err}
use Rattle.job_commands.specs.Schedules.{EndsCheck, check_meaning}
use Rattle.job_commands.specs.Words.{check_names_of}
use Rattle.job_commands.proofs.FilesInTurn.{four_refused}
use Rattle.job_commands.proofs.Finds.{check_counts, check_ends, check_usual, no_files}
use Rattle.job_commands.proofs.Usual.{accepted_answers, refused_answers, stops_early}
use Rattle.job_commands.proofs.checking.check_released.Goals as goal

-- its inputs are accepted

pub returns-in-Ok : goal.returns-in-Ok
returns-in-Ok g c =
    let names = check_names_of c.args.names in
    let healthy = g.W.World.healthy c.args.world.now in
    let reads = c.in-Ok.ensures in
    let checks = c.check_box.ensures in
    rw c.check_outcome.ensures
    (accepted_answers (check_meaning names) (check_usual names) _ g.W.World.shows g.W.World.ledger g.W.World.healthy
    c.args.world.now _ reads.only_reads 0 c.check_box.new.world reads.opened
    (no_files g.W.World.ledger g.W.World.healthy _ _ checks.only_writes) _ (search rules)
    (check_counts g.W.World.ledger g.W.World.healthy names c.args.world.now _ c.check_box.new.world
    c.check_box.result reads.only_reads reads.opened checks.only_writes checks.cause)
    (λ p q.
    let q1 = checks.before p q in
    check_ends healthy names c.in-Ok.inputs (g.W.World.shows p c.args.world.now) _
    (g.W.World.shows p c.check_box.new.world) (reads.keeps p q1) (reads.judged p q1) c.check_box.result checks.says
    (λ ok fault. (checks.cause fault).not_healthy (reads.only_reads.stays_healthy ok)) (checks.reported p q)
    (elim (checks.in_order p q)
    [ inl same ↦ inl (ap (λ w. g.W.World.shows p w) (sym same)) | inr begun ↦ inr begun ])
    (λ x same. ap (λ w. g.W.World.shows p w) (sym (checks.refused x same))))
    (λ p q. reads.before p (checks.before p q)))

-- an input is refused

pub returns-in-Err : goal.returns-in-Err
returns-in-Err g c =
    let names = check_names_of c.args.names in
    let healthy = g.W.World.healthy c.args.world.now in
    let is = c.in-Err.ensures in
    refused_answers (check_meaning names) (check_usual names) _ g.W.World.shows _ g.W.World.healthy _ _ is.only_reads
    c.in-Err.status is.quiet (λ e. is.cause (ap Err e))
    (λ p q. four_refused healthy names (g.W.World.shows p c.args.world.now) (EndsCheck healthy) c.in-Err.status
    (is.judged p q)) is.stage (λ p q limit large at same. stops_early limit _ _ ⊥ at same) is.keeps is.before
