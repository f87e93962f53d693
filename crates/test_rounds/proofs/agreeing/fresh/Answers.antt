use Rattle.std.proofs.Common.{refl}
use Rattle.test_rounds.proofs.Keeping.{opens}
use Rattle.test_rounds.proofs.agreeing.fresh.Goals as goal

pub returns-in-Ok-new-clause-of : goal.returns-in-Ok-new-clause-of
returns-in-Ok-new-clause-of g c =
    opens g.P.Program.meaning _ c.in-Ok-new.system c.args.program c.args.threads c.in-Ok-new.ensures.program
    c.in-Ok-new.ensures.stands refl
