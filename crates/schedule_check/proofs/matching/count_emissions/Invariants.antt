use Rattle.schedule_check.proofs.FirstOnes.{AreCounted}
use Rattle.schedule_check.proofs.matching.count_emissions.Given as goal

-- the table has the emissions so far
abbrev pub invariant-loop-emission : goal.invariant-loop-emission
invariant-loop-emission l = AreCounted l.unit l.emissions l.emission-index l.counts
