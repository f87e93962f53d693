use Rattle.std.proofs.Common.{◌∷◌, [], Err}
use Rattle.input_files.specs.Answers.{SaysCapture}
use Rattle.input_files.proofs.OnlyReading.{OnlyReads-more, OnlyReads-then, opened_then}
use Rattle.job_commands.specs.Words.{check_names_of, files_of, schedule_inputs}
use Rattle.job_commands.proofs.FilesInTurn.{released_refused, three_end}
use Rattle.job_commands.proofs.Stages.{released_stage}
use Rattle.job_commands.proofs.Turns.{judged_since}
use Rattle.job_commands.proofs.schedule_inputs.read_check_inputs.Goals as goal

pub returns-in-Err-clause-judged : goal.returns-in-Err-clause-judged
returns-in-Err-clause-judged g c p q = three_end (g.W.World.healthy c.args.world.now) (check_names_of c.args.names)
    (g.W.World.shows p c.args.world.now) c.in-Err.status (c.in-Err.ensures.judged p q)

pub returns-in-Err-read_capture_file-clause-judged : goal.returns-in-Err-read_capture_file-clause-judged
returns-in-Err-read_capture_file-clause-judged g c p q =
    let q1 = c.in-Err-read_capture_file.ensures.before p q in
    let h = g.W.World.healthy c.args.world.now in
    let a = g.W.World.shows p c.args.world.now in
    rw c.released_status.ensures (released_refused h (check_names_of c.args.names) a (λ inputs other. ⊥) c.in-Ok.played
    c.in-Err-read_capture_file.error (c.in-Ok.ensures.judged p q1)
    (judged_since SaysCapture h (g.W.World.healthy c.read_schedule_inputs.new.world)
    c.in-Ok.ensures.only_reads.stays_healthy a (g.W.World.shows p c.read_schedule_inputs.new.world)
    (c.in-Ok.ensures.keeps p q1).names c.args.names.released.now (Err c.in-Err-read_capture_file.error)
    (c.in-Err-read_capture_file.ensures.judged p q)))

pub returns-in-Err-read_capture_file-clause-stage : goal.returns-in-Err-read_capture_file-clause-stage
returns-in-Err-read_capture_file-clause-stage g c p q =
    rw c.released_status.ensures (released_stage (g.W.World.healthy c.read_schedule_inputs.new.world)
    c.args.names.released.now (g.W.World.shows p c.read_schedule_inputs.new.world) c.in-Err-read_capture_file.error
    (c.in-Err-read_capture_file.ensures.judged p q))

pub returns-in-Err-clause-only_reads : goal.returns-in-Err-clause-only_reads
returns-in-Err-clause-only_reads g c =
    OnlyReads-more _ _ (schedule_inputs (files_of c.args.names.files)) (c.args.names.released.now ∷ []) _ _
    c.in-Err.ensures.only_reads

pub returns-in-Err-read_capture_file-clause-only_reads : goal.returns-in-Err-read_capture_file-clause-only_reads
returns-in-Err-read_capture_file-clause-only_reads g c =
    OnlyReads-then _ _ (schedule_inputs (files_of c.args.names.files)) (c.args.names.released.now ∷ []) _ _ _
    c.in-Ok.ensures.only_reads c.in-Ok.ensures.opened c.in-Err-read_capture_file.ensures.only_reads

pub returns-in-Ok-read_capture_file-clause-only_reads : goal.returns-in-Ok-read_capture_file-clause-only_reads
returns-in-Ok-read_capture_file-clause-only_reads g c =
    OnlyReads-then _ _ (schedule_inputs (files_of c.args.names.files)) (c.args.names.released.now ∷ []) _ _ _
    c.in-Ok.ensures.only_reads c.in-Ok.ensures.opened c.in-Ok-read_capture_file.ensures.only_reads

pub returns-in-Ok-read_capture_file-clause-opened : goal.returns-in-Ok-read_capture_file-clause-opened
returns-in-Ok-read_capture_file-clause-opened g c =
    opened_then (schedule_inputs (files_of c.args.names.files)) (c.args.names.released.now ∷ []) _ _ _
    c.in-Ok.ensures.opened c.in-Ok-read_capture_file.ensures.opened
