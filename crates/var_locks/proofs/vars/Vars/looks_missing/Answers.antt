use Rattle.var_locks.proofs.vars.Vars.looks_missing.Goals as goal

pub returns-clause-at_work : goal.returns-clause-at_work
returns-clause-at_work g c is low = c.misses.ensures.at_work is
