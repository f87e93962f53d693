use Rattle.std.proofs.Common.{false}
use Rattle.bench.specs.Racing.{IsGoing, Stays}
use Rattle.bench.proofs.racing.run.Given as goal

-- the seat stays that of the thread
abbrev pub invariant-loop-taken : goal.invariant-loop-taken
invariant-loop-taken g l = record {
  going : IsGoing {V = g.row.P-Value.Denot} l.vars l.seat;
  stays : Stays {V = g.row.P-Value.Denot} false l.fn.seat l.seat;
}
