use Rattle.var_locks.proofs.steps.misses.Given as goal

abbrev pub ghosts-misses_as : goal.ghosts-misses_as
ghosts-misses_as g a = record { entry = a.missed }
