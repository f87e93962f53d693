use Rattle.nat_tables.proofs.RowLemmas.{AreOthers}
use Rattle.nat_tables.proofs.first_seen.FirstSeen.scan.Given as goal

-- the rows so far have other keys
abbrev pub invariant-loop-at : goal.invariant-loop-at
invariant-loop-at g l = AreOthers g.K.PartialEq.eq l.fn.key l.at l.fn.self
