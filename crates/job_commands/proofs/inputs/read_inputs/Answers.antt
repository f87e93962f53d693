use Rattle.std.proofs.Common.{◌∷◌, []}
use Rattle.input_files.proofs.OnlyReading.{OnlyReads-more, OnlyReads-then, opened_then}
use Rattle.job_commands.specs.Words.{names_of}
use Rattle.job_commands.proofs.Verdicts.{first_refused, script_refused}
use Rattle.job_commands.proofs.inputs.read_inputs.Goals as goal

pub returns-in-Err-clause-judged : goal.returns-in-Err-clause-judged
returns-in-Err-clause-judged g c p q =
    first_refused (g.W.World.healthy c.args.world.now) (names_of c.args.names) (g.W.World.shows p c.args.world.now)
    c.in-Err.status (c.in-Err.ensures.judged p q)

pub returns-in-Err-read_script_file-clause-judged : goal.returns-in-Err-read_script_file-clause-judged
returns-in-Err-read_script_file-clause-judged g c p q =
    let q1 = c.in-Err-read_script_file.ensures.before p q in
    let first = c.in-Ok.ensures.judged p q1 in
    rw c.script_status.ensures (script_refused (g.W.World.healthy c.args.world.now)
    (g.W.World.healthy c.read_first_inputs.new.world) c.in-Ok.ensures.only_reads.stays_healthy (names_of c.args.names)
    (g.W.World.shows p c.args.world.now) (g.W.World.shows p c.read_first_inputs.new.world)
    (c.in-Ok.ensures.keeps p q1).names c.in-Err-read_script_file.error c.in-Ok.first.conf
    c.in-Ok.first.capture first.0 first.1 (c.in-Err-read_script_file.ensures.judged p q))

pub returns-in-Err-clause-only_reads : goal.returns-in-Err-clause-only_reads
returns-in-Err-clause-only_reads g c =
    OnlyReads-more _ _ (c.args.names.box_file.now ∷ c.args.names.capture.now ∷ []) (c.args.names.script.now ∷ []) _ _
    c.in-Err.ensures.only_reads

pub returns-in-Err-read_script_file-clause-only_reads : goal.returns-in-Err-read_script_file-clause-only_reads
returns-in-Err-read_script_file-clause-only_reads g c =
    OnlyReads-then _ _ (c.args.names.box_file.now ∷ c.args.names.capture.now ∷ []) (c.args.names.script.now ∷ []) _ _ _
    c.in-Ok.ensures.only_reads c.in-Ok.ensures.opened c.in-Err-read_script_file.ensures.only_reads

pub returns-in-Ok-read_script_file-clause-only_reads : goal.returns-in-Ok-read_script_file-clause-only_reads
returns-in-Ok-read_script_file-clause-only_reads g c =
    OnlyReads-then _ _ (c.args.names.box_file.now ∷ c.args.names.capture.now ∷ []) (c.args.names.script.now ∷ []) _ _ _
    c.in-Ok.ensures.only_reads c.in-Ok.ensures.opened c.in-Ok-read_script_file.ensures.only_reads

pub returns-in-Ok-read_script_file-clause-opened : goal.returns-in-Ok-read_script_file-clause-opened
returns-in-Ok-read_script_file-clause-opened g c =
    opened_then (c.args.names.box_file.now ∷ c.args.names.capture.now ∷ []) (c.args.names.script.now ∷ []) _ _ _
    c.in-Ok.ensures.opened c.in-Ok-read_script_file.ensures.opened
