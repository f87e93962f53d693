use Rattle.nat_tables.specs.Idling.{AreLiveUntil}
use Rattle.nat_tables.proofs.IdleLemmas.{before_count}
use Rattle.nat_tables.proofs.forward.first_idle.Given as goal

abbrev pub invariant-loop-at : goal.invariant-loop-at
invariant-loop-at l = AreLiveUntil l.live l.slots

abbrev pub decreases-loop-at : goal.decreases-loop-at
decreases-loop-at l = before_count l.now l.live
