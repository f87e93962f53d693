use Rattle.std.proofs.Common.{◌∷◌, [], ◌∙◌, ap, arith, Err}
use Rattle.input_files.proofs.OnlyReading.{OnlyReads-more, OpensFirst-then, opened_then}
use Rattle.job_commands.specs.HandWords.{resume_names_of, resume_source}
use Rattle.job_commands.specs.Resume.{resumed_setting}
use Rattle.job_commands.proofs.Failing.{failed_since}
use Rattle.job_commands.proofs.Usual.{counts_of, refused_answers, stops_early}
use Rattle.job_top.specs.Resume.{resume_meaning}
use Rattle.job_top.proofs.Resumed.{from_since, resume_ends, resume_refused, resume_usual}
use Rattle.job_top.proofs.resume.resume.Goals as goal

-- its first inputs are accepted

pub resume_kinds-requires-clause-inputs : goal.resume_kinds-requires-clause-inputs
resume_kinds-requires-clause-inputs g c = record {
  some_threads = c.in-Ok.ensures.some_threads;
  few_threads = c.in-Ok.ensures.few_threads;
  short = c.in-Ok.ensures.short;
  is_image = c.in-Ok.ensures.image;
}

pub returns-in-Ok : goal.returns-in-Ok
returns-in-Ok g c =
    let names = resume_names_of c.args.names in
    let usual = resume_usual names in
    let h = g.W.World.healthy c.args.world.now in
    let i = c.in-Ok.source in
    let reads = c.in-Ok.ensures in
    let does = c.resume_kinds.ensures in
    let st = c.resume_kinds.result in
    record {
      bytes = λ p q.
          let q1 = does.before p q in
          let a = g.W.World.shows p c.args.world.now in
          let b = g.W.World.shows p c.read_resume_source.new.world in
          let e = g.W.World.shows p c.resume_kinds.new.world in
          let end = resume_ends h names i a e (reads.judged p q1) c.requires.apart st
          (from_since a b e (reads.keeps p q1) h (g.W.World.healthy c.read_resume_source.new.world)
          reads.only_reads.stays_healthy (resumed_setting i) i.image names st (does.shows p q)) in
          record {
            says = end.says;
            in_order = end.in_order;
            others = usual.others a e end.in_order;
            judged = end.judged;
            completes = λ ok accepts. usual.completes h a ok accepts st end.judged;
          };
      before = λ p q. reads.before p (does.before p q);
      counts = counts_of g.W.World.ledger g.W.World.healthy (resume_meaning names) c.args.world.now
          c.resume_kinds.new.world st does.words
          (λ done. opened_then (resume_source names) (c.args.names.script.now ∷ []) _ _ _ reads.opened
          (does.opens_all done))
          (λ refused. does.creates_nothing refused ∙ reads.only_reads.ledger.created)
          (λ fault. omega (arith, reads.only_reads.ledger.read_faults, does.read_fault fault))
          (λ fault. failed_since _ _ _ _ _ _ reads.only_reads (does.write_fault fault));
      opens_in_order = OpensFirst-then (resume_source names) (c.args.names.script.now ∷ []) _ _ _ reads.opened
          does.opens_in_order;
      orderly = λ none.
          does.orderly (λ k. ap (λ f. f k) reads.only_reads.ledger.created ∙ none k)
          ∙ reads.only_reads.ledger.orderly none;
      given = omega (arith, reads.only_reads.ledger.given, does.given);
    }

-- an input is refused

pub returns-in-Err : goal.returns-in-Err
returns-in-Err g c =
    let names = resume_names_of c.args.names in
    let h = g.W.World.healthy c.args.world.now in
    let is = c.in-Err.ensures in
    refused_answers (resume_meaning names) (resume_usual names) _ g.W.World.shows _ g.W.World.healthy _ _
    (OnlyReads-more _ _ (resume_source names) (c.args.names.script.now ∷ []) _ _ is.only_reads) c.in-Err.status
    is.quiet (λ e. is.cause (ap Err e))
    (λ p q. resume_refused h names c.in-Err.status (g.W.World.shows p c.args.world.now) (is.judged p q)) is.stage
    (λ p q limit large at same. stops_early limit _ _ _ at same) is.keeps is.before
