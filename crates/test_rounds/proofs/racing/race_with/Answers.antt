use Rattle.test_rounds.proofs.Keeping.{round_keeps}
use Rattle.test_rounds.proofs.racing.race_with.Goals as goal

pub returns-clause-of : goal.returns-clause-of
returns-clause-of g c =
    (round_keeps g.P.Program.meaning _ _ _ _ _ _ _ c.args.racing.threads c.args.racing.system c.in-Ok.done.system
    c.requires.of c.in-Ok.ensures.program c.in-Ok.ensures.on).0
