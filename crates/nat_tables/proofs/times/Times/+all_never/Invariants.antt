use Rattle.nat_tables.proofs.times.Times.+all_never.Given as goal

abbrev pub decreases-all_never : goal.decreases-all_never
decreases-all_never l = l.count
