use Rattle.schedule_check.proofs.FirstOnes.{AreLeft}
use Rattle.schedule_check.proofs.matching.first_unmatched.Given as goal

-- what is left, and the packets so far, are the emissions
abbrev pub invariant-loop-index : goal.invariant-loop-index
invariant-loop-index l = AreLeft l.unit l.released l.fn.other_unit l.fn.emissions l.index l.left
