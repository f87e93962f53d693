use Rattle.bench.proofs.Opening.{moved_on}
use Rattle.bench.proofs.rounds.whole.race_fed.Goals as goal

pub race_all-requires-clause-stands : goal.race_all-requires-clause-stands
race_all-requires-clause-stands g c κs within =
    (moved_on g.P.Program.meaning _ c.args.draws _ _ c.in-Ok.ensures.on c.requires.of).0

pub race_all-requires-clause-draws : goal.race_all-requires-clause-draws
race_all-requires-clause-draws g c κs within =
    (moved_on g.P.Program.meaning _ c.args.draws _ _ c.in-Ok.ensures.on c.requires.of).1
