use Rattle.std.proofs.Common.{◌∷◌, [], Ok, Err}
use Rattle.input_files.specs.Answers.{SaysBox}
use Rattle.input_files.proofs.OnlyReading.{OnlyReads-more, OnlyReads-then, opened_then}
use Rattle.job_commands.specs.ChainWords.{chain_names_of}
use Rattle.job_commands.proofs.ChainFiles.{first_box_refused, second_box_refused}
use Rattle.job_commands.proofs.Turns.{judged_since}
use Rattle.job_commands.proofs.chain_inputs.read_boxes.Goals as goal

pub returns-in-Err-clause-judged : goal.returns-in-Err-clause-judged
returns-in-Err-clause-judged g c p q =
    rw c.box_status.ensures (first_box_refused (g.W.World.healthy c.args.world.now) (chain_names_of c.args.names)
    (g.W.World.shows p c.args.world.now) (λ boxes other. ⊥) c.in-Err.error (c.in-Err.ensures.judged p q))

pub returns-in-Err-read_box_file-clause-judged : goal.returns-in-Err-read_box_file-clause-judged
returns-in-Err-read_box_file-clause-judged g c p q =
    let q1 = c.in-Err-read_box_file.ensures.before p q in
    let h = g.W.World.healthy c.args.world.now in
    let a = g.W.World.shows p c.args.world.now in
    rw c.second_box_status.ensures (second_box_refused h (chain_names_of c.args.names) a (λ boxes other. ⊥)
    c.in-Ok.conf c.in-Err-read_box_file.error (c.in-Ok.ensures.judged p q1)
    (judged_since SaysBox h (g.W.World.healthy c.read_box_file.new.world) c.in-Ok.ensures.only_reads.stays_healthy a
    (g.W.World.shows p c.read_box_file.new.world) (c.in-Ok.ensures.keeps p q1).names c.args.names.second_box.now
    (Err c.in-Err-read_box_file.error) (c.in-Err-read_box_file.ensures.judged p q)))

pub returns-in-Ok-read_box_file-clause-judged : goal.returns-in-Ok-read_box_file-clause-judged
returns-in-Ok-read_box_file-clause-judged g c p q =
    let q1 = c.in-Ok-read_box_file.ensures.before p q in
    let told = c.in-Ok-read_box_file.ensures.judged p q in
    record {
      first_accepted = c.in-Ok.ensures.judged p q1;
      second_accepted =
          judged_since SaysBox (g.W.World.healthy c.args.world.now) (g.W.World.healthy c.read_box_file.new.world)
          c.in-Ok.ensures.only_reads.stays_healthy (g.W.World.shows p c.args.world.now)
          (g.W.World.shows p c.read_box_file.new.world) (c.in-Ok.ensures.keeps p q1).names
          c.args.names.second_box.now (Ok c.in-Ok-read_box_file.second) told;
    }

pub returns-in-Err-clause-only_reads : goal.returns-in-Err-clause-only_reads
returns-in-Err-clause-only_reads g c =
    OnlyReads-more _ _ (c.args.names.first_box.now ∷ []) (c.args.names.second_box.now ∷ []) _ _
    c.in-Err.ensures.only_reads

pub returns-in-Err-read_box_file-clause-only_reads : goal.returns-in-Err-read_box_file-clause-only_reads
returns-in-Err-read_box_file-clause-only_reads g c =
    OnlyReads-then _ _ (c.args.names.first_box.now ∷ []) (c.args.names.second_box.now ∷ []) _ _ _
    c.in-Ok.ensures.only_reads c.in-Ok.ensures.opened c.in-Err-read_box_file.ensures.only_reads

pub returns-in-Ok-read_box_file-clause-only_reads : goal.returns-in-Ok-read_box_file-clause-only_reads
returns-in-Ok-read_box_file-clause-only_reads g c =
    OnlyReads-then _ _ (c.args.names.first_box.now ∷ []) (c.args.names.second_box.now ∷ []) _ _ _
    c.in-Ok.ensures.only_reads c.in-Ok.ensures.opened c.in-Ok-read_box_file.ensures.only_reads

pub returns-in-Ok-read_box_file-clause-opened : goal.returns-in-Ok-read_box_file-clause-opened
returns-in-Ok-read_box_file-clause-opened g c =
    opened_then (c.args.names.first_box.now ∷ []) (c.args.names.second_box.now ∷ []) _ _ _ c.in-Ok.ensures.opened
    c.in-Ok-read_box_file.ensures.opened
