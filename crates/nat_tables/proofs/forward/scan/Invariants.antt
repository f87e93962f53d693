use Rattle.nat_tables.proofs.IdleLemmas.{NoneSoFar}
use Rattle.nat_tables.proofs.forward.scan.Given as goal

-- none of the rows so far is idle
abbrev pub invariant-loop-at : goal.invariant-loop-at
invariant-loop-at l = NoneSoFar l.fn.start l.at l.fn.now l.fn.slots
