use Rattle.test_rounds.proofs.racing.race.Goals as goal

pub returns-clause-of : goal.returns-clause-of
returns-clause-of g c =
    c.keep_round.ensures.keeps c.if-not-keep_round.false c.args.racing.threads c.in_ok-system.ensures.of
