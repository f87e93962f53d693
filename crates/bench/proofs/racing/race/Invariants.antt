use Rattle.var_locks.specs.Codes.{master_code}
use Rattle.var_locks.specs.Openings.{places_of}
use Rattle.bench.proofs.racing.race.Given as goal

-- the round is that of the program, the master and the guide
abbrev pub ghosts-round_of : goal.ghosts-round_of
ghosts-round_of g a = record {
  program = g.row.P.coded.code a.program.now;
  opening = (master_code g.row.P-Value.coded).code a.master;
  threads = a.master.threads;
  places = places_of a.master.vars;
  guide = a.guide.now;
}
