use Rattle.bench.proofs.rounds.whole.+race_often.Given as goal

abbrev pub decreases-race_often : goal.decreases-race_often
decreases-race_often g l = l.rounds
