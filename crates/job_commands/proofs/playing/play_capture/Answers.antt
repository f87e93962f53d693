use Rattle.std.proofs.Common.{ap, sym, inl, inr, rules, Err}
use Rattle.job_commands.specs.Schedules.{EndsPlay, play_meaning}
use Rattle.job_commands.specs.Words.{play_names_of}
use Rattle.job_commands.proofs.FilesInTurn.{three_refused}
use Rattle.job_commands.proofs.Plays.{play_counts, play_ends, play_usual}
use Rattle.job_commands.proofs.Usual.{accepted_answers, refused_answers, stops_early}
use Rattle.job_commands.proofs.playing.play_capture.Goals as goal

-- its inputs are accepted

pub returns-in-Ok : goal.returns-in-Ok
returns-in-Ok g c =
    let names = play_names_of c.args.names in
    let healthy = g.W.World.healthy c.args.world.now in
    let reads = c.in-Ok.ensures in
    let plays = c.play_box.ensures in
    rw c.play_outcome.ensures
    (accepted_answers (play_meaning names) (play_usual names) _ g.W.World.shows g.W.World.ledger g.W.World.healthy
    c.args.world.now _ reads.only_reads 1 c.play_box.new.world reads.opened plays.writes_files _ (search rules)
    (play_counts g.W.World.ledger g.W.World.healthy names c.args.world.now _ c.play_box.new.world c.play_box.result
    reads.only_reads reads.opened plays.writes_files plays.refused plays.cause)
    (λ p q.
    let q1 = plays.before p q in
    play_ends healthy names c.in-Ok.inputs (g.W.World.shows p c.args.world.now) _
    (g.W.World.shows p c.play_box.new.world) (reads.keeps p q1) (reads.judged p q1) c.play_box.result plays.says
    (λ ok fault. (plays.cause fault).not_healthy (reads.only_reads.stays_healthy ok)) (plays.played p q)
    (elim (plays.in_order p q)
    [ inl same ↦ inl (ap (λ w. g.W.World.shows p w) (sym same)) | inr begun ↦ inr begun ])
    (λ x same. ap (λ w. g.W.World.shows p w) (sym (plays.refused x same))))
    (λ p q. reads.before p (plays.before p q)))

-- an input is refused

pub returns-in-Err : goal.returns-in-Err
returns-in-Err g c =
    let names = play_names_of c.args.names in
    let healthy = g.W.World.healthy c.args.world.now in
    let is = c.in-Err.ensures in
    refused_answers (play_meaning names) (play_usual names) _ g.W.World.shows _ g.W.World.healthy _ _ is.only_reads
    c.in-Err.status is.quiet (λ e. is.cause (ap Err e))
    (λ p q. three_refused healthy names.files (g.W.World.shows p c.args.world.now) (EndsPlay healthy) c.in-Err.status
    (is.judged p q)) is.stage (λ p q limit large at same. stops_early limit _ _ ⊥ at same) is.keeps is.before
