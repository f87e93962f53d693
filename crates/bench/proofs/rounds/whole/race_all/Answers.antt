use Rattle.bench.proofs.Opening.{raced_on}
use Rattle.bench.proofs.rounds.whole.race_all.Goals as goal

pub returns-clause-of : goal.returns-clause-of
returns-clause-of g c =
    raced_on g.P.Program.meaning _ _ _ _ _ _ _ c.args.system c.in-Ok.done.system c.requires.stands
    c.in-Ok.ensures.program c.in-Ok.ensures.on
