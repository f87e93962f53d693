use Rattle.std.proofs.Common.{subst, sym, ◌∙◌}
use Rattle.input_files.proofs.OnlyReading.{OpensFirst-all}
use Rattle.run_writes.specs.Replies.{at_world}
use Rattle.hand_command.proofs.FromRunCommand.{runs_same}
use Rattle.job_commands.specs.declared.status.Status.{Status}
use Rattle.job_commands.specs.HandWords.{resume_names_of}
use Rattle.job_commands.specs.Status.{IsRefusal}
use Rattle.job_commands.proofs.Failing.{failed_since}
use Rattle.job_commands.proofs.Outcomes.{kept, run_fault, run_reads, run_refuses, run_words}
use Rattle.job_commands.proofs.Stages.{quiet_done, quiet_words, quiet_writing}
use Rattle.job_top.specs.Resume.{IsRefused, Runs, resume_outputs}
use Rattle.job_top.proofs.Resumed.{runs_since}
use Rattle.job_top.proofs.resume.resume_script.Goals as goal

-- the script is accepted

pub returns-in-Ok-clause-shows : goal.returns-in-Ok-clause-shows
returns-in-Ok-clause-shows g c p q s image unit at =
    let q1 = c.run_from-run.ensures.before p q in
    let a = g.W.World.shows p c.args.world.now in
    let b = g.W.World.shows p c.read_script.new.world in
    let e = g.W.World.shows p c.run_from-run.new.world in
    let names = resume_outputs (resume_names_of c.args.names) in
    Runs c.in-Ok.events (c.in-Ok.ensures.judged p q1) c.run_from-run.result c.run_outcome.ensures
    (λ ok fault. (c.run_from-run.ensures.cause fault).not_healthy (c.in-Ok.ensures.only_reads.stays_healthy ok))
    (λ w handed. runs_since a b e (c.in-Ok.ensures.keeps p q1) s names c.in-Ok.events w c.run_from-run.result
    (runs_same c.run_from-run.result s (at_world w) names _ c.in-Ok.events b e c.as_slice.ensures
    (c.run_from-run.ensures.shows p q s w unit (at w handed))))

pub returns-in-Ok-clause-creates_nothing : goal.returns-in-Ok-clause-creates_nothing
returns-in-Ok-clause-creates_nothing g c e =
    absurd (run_refuses c.run_from-run.result (subst (λ (s : Status). IsRefusal s) c.run_outcome.ensures e))

pub returns-in-Ok-clause-words : goal.returns-in-Ok-clause-words
returns-in-Ok-clause-words g c e = run_words c.run_from-run.result (sym c.run_outcome.ensures ∙ e)

pub returns-in-Ok-clause-read_fault : goal.returns-in-Ok-clause-read_fault
returns-in-Ok-clause-read_fault g c e = absurd (run_reads c.run_from-run.result (sym c.run_outcome.ensures ∙ e))

pub returns-in-Ok-clause-write_fault : goal.returns-in-Ok-clause-write_fault
returns-in-Ok-clause-write_fault g c e =
    failed_since _ _ _ _ _ _ c.in-Ok.ensures.only_reads
    (c.run_from-run.ensures.cause (run_fault c.run_from-run.result (sym c.run_outcome.ensures ∙ e)))

pub returns-in-Ok-clause-opens_in_order : goal.returns-in-Ok-clause-opens_in_order
returns-in-Ok-clause-opens_in_order g c =
    OpensFirst-all _ _ _ (c.run_from-run.ensures.writes_files.ledger.opened_names ∙ c.in-Ok.ensures.opened)

pub returns-in-Ok-clause-opens_all : goal.returns-in-Ok-clause-opens_all
returns-in-Ok-clause-opens_all g c e = c.run_from-run.ensures.writes_files.ledger.opened_names ∙ c.in-Ok.ensures.opened

pub returns-in-Ok-clause-orderly : goal.returns-in-Ok-clause-orderly
returns-in-Ok-clause-orderly g c none =
    c.run_from-run.ensures.writes_files.ledger.orderly ∙ c.in-Ok.ensures.only_reads.ledger.orderly none

-- it is refused

pub returns-in-Err-clause-shows : goal.returns-in-Err-clause-shows
returns-in-Err-clause-shows g c p q s image unit at =
    IsRefused (c.in-Err.ensures.judged p q) (c.in-Err.ensures.stage p q) c.in-Err.ensures.quiet
    (kept _ _ (c.in-Err.ensures.keeps p q))

pub returns-in-Err-clause-creates_nothing : goal.returns-in-Err-clause-creates_nothing
returns-in-Err-clause-creates_nothing g c e = c.in-Err.ensures.only_reads.ledger.created

pub returns-in-Err-clause-words : goal.returns-in-Err-clause-words
returns-in-Err-clause-words g c e = quiet_words c.in-Err.status e c.in-Err.ensures.quiet

pub returns-in-Err-clause-write_fault : goal.returns-in-Err-clause-write_fault
returns-in-Err-clause-write_fault g c e = absurd (quiet_writing c.in-Err.status e c.in-Err.ensures.quiet)

pub returns-in-Err-clause-opens_in_order : goal.returns-in-Err-clause-opens_in_order
returns-in-Err-clause-opens_in_order g c = c.in-Err.ensures.only_reads.ledger.opened

pub returns-in-Err-clause-orderly : goal.returns-in-Err-clause-orderly
returns-in-Err-clause-orderly g c = c.in-Err.ensures.only_reads.ledger.orderly

pub returns-in-Err-clause-opens_all : goal.returns-in-Err-clause-opens_all
returns-in-Err-clause-opens_all g c e = absurd (quiet_done c.in-Err.status e c.in-Err.ensures.quiet)

pub returns-in-Ok-clause-before : goal.returns-in-Ok-clause-before
returns-in-Ok-clause-before g c p q = c.in-Ok.ensures.before p (c.run_from-run.ensures.before p q)
