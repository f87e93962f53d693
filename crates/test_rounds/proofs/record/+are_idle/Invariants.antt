use Rattle.test_rounds.proofs.record.+are_idle.Given as goal

abbrev pub decreases-are_idle : goal.decreases-are_idle
decreases-are_idle g l = l.threads
