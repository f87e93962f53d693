use Rattle.std.proofs.Common.{inl, inr, refl, subst, Option}
use Rattle.std.specs.Prelude.{IfSome}
use Rattle.hand_faults.specs.declared.fault.HandFault.{HandFault}
use Rattle.job_commands.specs.HandWords.{resume_names_of}
use Rattle.job_commands.specs.Resume.{HasSealFault, SealRefuses}
use Rattle.job_commands.proofs.ResumeFiles.{source_accepted, source_refused}
use Rattle.job_commands.proofs.resume_inputs.read_resume_source.Goals as goal

-- the files are accepted

pub returns-in-Ok-None-clause-judged : goal.returns-in-Ok-None-clause-judged
returns-in-Ok-None-clause-judged g c p q =
    record {
      source_accepted = c.in-Ok.ensures.judged p q;
      sealed = c.in-Ok-None.ensures.sealed c.in-Ok-None.field-0-is;
    }

pub returns-in-Ok-Some-clause-judged : goal.returns-in-Ok-Some-clause-judged
returns-in-Ok-Some-clause-judged g c p q =
    source_accepted (g.W.World.healthy c.args.world.now) (resume_names_of c.args.names)
    (g.W.World.shows p c.args.world.now) SealRefuses c.in-Ok.source _ (c.in-Ok.ensures.judged p q)
    (inr (
      c.in-Ok-Some.fault,
      subst (λ (r : Option HandFault). IfSome r (HasSealFault c.in-Ok.source))
          c.in-Ok-Some.field-0-is c.in-Ok-Some.ensures.refused,
      refl,
    ))

pub returns-in-Err-seal_refusal-clause-judged : goal.returns-in-Err-seal_refusal-clause-judged
returns-in-Err-seal_refusal-clause-judged g c p q =
    source_accepted (g.W.World.healthy c.args.world.now) (resume_names_of c.args.names)
    (g.W.World.shows p c.args.world.now) SealRefuses c.in-Ok.source _ (c.in-Ok.ensures.judged p q) (inl refl)

-- one is refused

pub returns-in-Err-clause-judged : goal.returns-in-Err-clause-judged
returns-in-Err-clause-judged g c p q =
    source_refused (g.W.World.healthy c.args.world.now) (resume_names_of c.args.names)
    (g.W.World.shows p c.args.world.now) SealRefuses c.in-Err.status (c.in-Err.ensures.judged p q)
