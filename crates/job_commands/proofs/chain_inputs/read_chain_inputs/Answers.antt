use Rattle.std.proofs.Common.{◌∷◌, [], Ok, Err}
use Rattle.input_files.specs.Answers.{SaysChain}
use Rattle.input_files.proofs.OnlyReading.{OnlyReads-more, OnlyReads-then, opened_then}
use Rattle.job_commands.specs.ChainWords.{chain_names_of}
use Rattle.job_commands.proofs.ChainFiles.{source_of_chain_refused, chain_script_refused}
use Rattle.job_commands.proofs.Stages.{chain_stage}
use Rattle.job_commands.proofs.Turns.{judged_since}
use Rattle.job_commands.proofs.chain_inputs.read_chain_inputs.Goals as goal

pub returns-in-Err-clause-judged : goal.returns-in-Err-clause-judged
returns-in-Err-clause-judged g c p q =
    source_of_chain_refused (g.W.World.healthy c.args.world.now) (chain_names_of c.args.names)
    (g.W.World.shows p c.args.world.now) (λ inputs other. ⊥) c.in-Err.status (c.in-Err.ensures.judged p q)

pub returns-in-Err-read_chain_file-clause-judged : goal.returns-in-Err-read_chain_file-clause-judged
returns-in-Err-read_chain_file-clause-judged g c p q =
    let q1 = c.in-Err-read_chain_file.ensures.before p q in
    let h = g.W.World.healthy c.args.world.now in
    let a = g.W.World.shows p c.args.world.now in
    rw c.script_status.ensures (chain_script_refused h (chain_names_of c.args.names) a (λ inputs other. ⊥)
    c.in-Ok.source c.in-Err-read_chain_file.error (c.in-Ok.ensures.judged p q1)
    (judged_since SaysChain h (g.W.World.healthy c.read_source.new.world) c.in-Ok.ensures.only_reads.stays_healthy a
    (g.W.World.shows p c.read_source.new.world) (c.in-Ok.ensures.keeps p q1).names c.args.names.script.now
    (Err c.in-Err-read_chain_file.error) (c.in-Err-read_chain_file.ensures.judged p q)))

pub returns-in-Ok-read_chain_file-clause-judged : goal.returns-in-Ok-read_chain_file-clause-judged
returns-in-Ok-read_chain_file-clause-judged g c p q =
    let q1 = c.in-Ok-read_chain_file.ensures.before p q in
    let told = c.in-Ok-read_chain_file.ensures.judged p q in
    record {
      source_accepted = c.in-Ok.ensures.judged p q1;
      script_accepted =
          judged_since SaysChain (g.W.World.healthy c.args.world.now) (g.W.World.healthy c.read_source.new.world)
          c.in-Ok.ensures.only_reads.stays_healthy (g.W.World.shows p c.args.world.now)
          (g.W.World.shows p c.read_source.new.world) (c.in-Ok.ensures.keeps p q1).names c.args.names.script.now
          (Ok c.in-Ok-read_chain_file.events) told;
    }

pub returns-in-Err-clause-only_reads : goal.returns-in-Err-clause-only_reads
returns-in-Err-clause-only_reads g c =
    OnlyReads-more _ _ (c.args.names.first_box.now ∷ c.args.names.second_box.now ∷ c.args.names.capture.now ∷ [])
    (c.args.names.script.now ∷ []) _ _ c.in-Err.ensures.only_reads

pub returns-in-Err-read_chain_file-clause-only_reads : goal.returns-in-Err-read_chain_file-clause-only_reads
returns-in-Err-read_chain_file-clause-only_reads g c =
    OnlyReads-then _ _ (c.args.names.first_box.now ∷ c.args.names.second_box.now ∷ c.args.names.capture.now ∷ [])
    (c.args.names.script.now ∷ []) _ _ _ c.in-Ok.ensures.only_reads c.in-Ok.ensures.opened
    c.in-Err-read_chain_file.ensures.only_reads

pub returns-in-Ok-read_chain_file-clause-only_reads : goal.returns-in-Ok-read_chain_file-clause-only_reads
returns-in-Ok-read_chain_file-clause-only_reads g c =
    OnlyReads-then _ _ (c.args.names.first_box.now ∷ c.args.names.second_box.now ∷ c.args.names.capture.now ∷ [])
    (c.args.names.script.now ∷ []) _ _ _ c.in-Ok.ensures.only_reads c.in-Ok.ensures.opened
    c.in-Ok-read_chain_file.ensures.only_reads

pub returns-in-Ok-read_chain_file-clause-opened : goal.returns-in-Ok-read_chain_file-clause-opened
returns-in-Ok-read_chain_file-clause-opened g c =
    opened_then (c.args.names.first_box.now ∷ c.args.names.second_box.now ∷ c.args.names.capture.now ∷ [])
    (c.args.names.script.now ∷ []) _ _ _ c.in-Ok.ensures.opened c.in-Ok-read_chain_file.ensures.opened

pub returns-in-Err-read_chain_file-clause-stage : goal.returns-in-Err-read_chain_file-clause-stage
returns-in-Err-read_chain_file-clause-stage g c p q =
    rw c.script_status.ensures (chain_stage (g.W.World.healthy c.read_source.new.world) c.args.names.script.now
    (g.W.World.shows p c.read_source.new.world) c.in-Err-read_chain_file.error
    (c.in-Err-read_chain_file.ensures.judged p q))
