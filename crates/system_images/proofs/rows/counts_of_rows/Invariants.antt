use Rattle.system_images.proofs.RowsLemmas.{CountedTo}
use Rattle.system_images.proofs.rows.counts_of_rows.Given as goal

-- the counts of the epochs before this one are there
abbrev pub invariant-loop-epoch : goal.invariant-loop-epoch
invariant-loop-epoch l = CountedTo l.threads l.many l.rows l.epoch l.ended.items
