use Rattle.std.proofs.Common.{refl, sym, subst}
use Rattle.recovery_world.specs.World.{Setting, opening}
use Rattle.system_parts.specs.SystemStanding.{StandsFor}
use Rattle.system_images.specs.Building.{Resumes}
use Rattle.system_images.proofs.resuming.resume_parts.Goals as goal

pub bring-requires-clause-stands : goal.bring-requires-clause-stands
bring-requires-clause-stands g c κs within =
    let s : Setting g.row.P-Value.Denot = record {
      meaning = g.P.Program.meaning c.args.program;
      threads = c.args.threads;
      tags = c.args.tags;
      fractions = c.args.unit;
      packets = c.args.packets;
      seed = c.args.seed;
    } in (
      s,
      opening g.row.P-Value.Denot,
      subst (λ p. StandsFor (g.P.Program.meaning p) s (opening g.row.P-Value.Denot) c.in_ok-core.core)
          (sym c.in_ok-core.ensures.program) c.in_ok-core.ensures.stands,
    )

-- what the parts are then
resumed : (g : _) (c : goal.In-Ok g) → Resumes (g.P.Program.meaning c.in_ok-core.core.program) (record {
  meaning = g.P.Program.meaning c.args.program;
  threads = c.args.threads;
  tags = c.args.tags;
  fractions = c.args.unit;
  packets = c.args.packets;
  seed = c.args.seed;
}) c.args.image.now c.bring.new.core
resumed g c =
    let s : Setting g.row.P-Value.Denot = record {
      meaning = g.P.Program.meaning c.args.program;
      threads = c.args.threads;
      tags = c.args.tags;
      fractions = c.args.unit;
      packets = c.args.packets;
      seed = c.args.seed;
    } in
    c.in-Ok.ensures.resumes s
    (subst (λ p. StandsFor (g.P.Program.meaning p) s (opening g.row.P-Value.Denot) c.in_ok-core.core)
    (sym c.in_ok-core.ensures.program) c.in_ok-core.ensures.stands) refl

pub returns-in-Ok-clause-no_fault : goal.returns-in-Ok-clause-no_fault
returns-in-Ok-clause-no_fault g c = (resumed g c).no_fault

pub returns-in-Ok-clause-stands : goal.returns-in-Ok-clause-stands
returns-in-Ok-clause-stands g c = λ w sound rest is.
    let s : Setting g.row.P-Value.Denot = record {
      meaning = g.P.Program.meaning c.args.program;
      threads = c.args.threads;
      tags = c.args.tags;
      fractions = c.args.unit;
      packets = c.args.packets;
      seed = c.args.seed;
    } in
    subst (λ p. StandsFor (g.P.Program.meaning p) s w c.bring.new.core) c.in_ok-core.ensures.program
    ((resumed g c).stands w sound rest is)

pub returns-in-Ok-clause-some : goal.returns-in-Ok-clause-some
returns-in-Ok-clause-some g c = (resumed g c).some
