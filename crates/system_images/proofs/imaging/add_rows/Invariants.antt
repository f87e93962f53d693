use Rattle.system_images.proofs.RowsLemmas.{AddedTo}
use Rattle.system_images.proofs.imaging.add_rows.Given as goal

-- the rows of the threads before this one are added
abbrev pub invariant-loop-thread : goal.invariant-loop-thread
invariant-loop-thread l = AddedTo l.counts l.threads l.epoch l.thread l.fn.rows l.rows
