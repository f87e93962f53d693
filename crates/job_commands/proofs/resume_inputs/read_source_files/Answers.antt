use Rattle.std.proofs.Common.{◌∷◌, [], Ok, Err}
use Rattle.input_files.specs.Answers.{SaysImage}
use Rattle.input_files.proofs.OnlyReading.{OnlyReads-more, OnlyReads-then, opened_then}
use Rattle.job_commands.specs.Resume.{image_third}
use Rattle.job_commands.specs.HandWords.{resume_names_of}
use Rattle.job_commands.proofs.ThreeFiles.{first_refused, third_refused}
use Rattle.job_commands.proofs.Turns.{judged_since}
use Rattle.job_commands.proofs.resume_inputs.read_source_files.Goals as goal

pub returns-in-Err-clause-judged : goal.returns-in-Err-clause-judged
returns-in-Err-clause-judged g c p q =
    let h = g.W.World.healthy c.args.world.now in
    let a = g.W.World.shows p c.args.world.now in
    first_refused h c.args.names.box_file.now c.args.names.capture.now a
    (image_third h (resume_names_of c.args.names) a)
    (λ conf capture value other. ⊥) c.in-Err.status (c.in-Err.ensures.judged p q)

pub returns-in-Err-read_image_file-clause-judged : goal.returns-in-Err-read_image_file-clause-judged
returns-in-Err-read_image_file-clause-judged g c p q =
    let q1 = c.in-Err-read_image_file.ensures.before p q in
    let h = g.W.World.healthy c.args.world.now in
    let a = g.W.World.shows p c.args.world.now in
    let first = c.in-Ok.ensures.judged p q1 in
    rw c.image_status.ensures (third_refused h c.args.names.box_file.now c.args.names.capture.now a
    (image_third h (resume_names_of c.args.names) a) (λ conf capture value other. ⊥) c.in-Ok.first.conf
    c.in-Ok.first.capture c.in-Err-read_image_file.error first.0 first.1
    (judged_since SaysImage h (g.W.World.healthy c.read_first_inputs.new.world) c.in-Ok.ensures.only_reads.stays_healthy
    a (g.W.World.shows p c.read_first_inputs.new.world) (c.in-Ok.ensures.keeps p q1).names
    c.args.names.handover.now (Err c.in-Err-read_image_file.error) (c.in-Err-read_image_file.ensures.judged p q)))

pub returns-in-Ok-read_image_file-clause-judged : goal.returns-in-Ok-read_image_file-clause-judged
returns-in-Ok-read_image_file-clause-judged g c p q =
    let q1 = c.in-Ok-read_image_file.ensures.before p q in
    let first = c.in-Ok.ensures.judged p q1 in
    record {
      box_accepted = first.0;
      capture_accepted = first.1;
      handover_accepted =
          judged_since SaysImage (g.W.World.healthy c.args.world.now) (g.W.World.healthy c.read_first_inputs.new.world)
          c.in-Ok.ensures.only_reads.stays_healthy (g.W.World.shows p c.args.world.now)
          (g.W.World.shows p c.read_first_inputs.new.world) (c.in-Ok.ensures.keeps p q1).names
          c.args.names.handover.now (Ok c.in-Ok-read_image_file.image) (c.in-Ok-read_image_file.ensures.judged p q);
    }

pub returns-in-Err-clause-only_reads : goal.returns-in-Err-clause-only_reads
returns-in-Err-clause-only_reads g c =
    OnlyReads-more _ _ (c.args.names.box_file.now ∷ c.args.names.capture.now ∷ []) (c.args.names.handover.now ∷ []) _ _
    c.in-Err.ensures.only_reads

pub returns-in-Err-read_image_file-clause-only_reads : goal.returns-in-Err-read_image_file-clause-only_reads
returns-in-Err-read_image_file-clause-only_reads g c =
    OnlyReads-then _ _ (c.args.names.box_file.now ∷ c.args.names.capture.now ∷ []) (c.args.names.handover.now ∷ []) _
    _ _
    c.in-Ok.ensures.only_reads c.in-Ok.ensures.opened c.in-Err-read_image_file.ensures.only_reads

pub returns-in-Ok-read_image_file-clause-only_reads : goal.returns-in-Ok-read_image_file-clause-only_reads
returns-in-Ok-read_image_file-clause-only_reads g c =
    OnlyReads-then _ _ (c.args.names.box_file.now ∷ c.args.names.capture.now ∷ []) (c.args.names.handover.now ∷ []) _
    _ _
    c.in-Ok.ensures.only_reads c.in-Ok.ensures.opened c.in-Ok-read_image_file.ensures.only_reads

pub returns-in-Ok-read_image_file-clause-opened : goal.returns-in-Ok-read_image_file-clause-opened
returns-in-Ok-read_image_file-clause-opened g c =
    opened_then (c.args.names.box_file.now ∷ c.args.names.capture.now ∷ []) (c.args.names.handover.now ∷ []) _ _ _
    c.in-Ok.ensures.opened c.in-Ok-read_image_file.ensures.opened
