use Rattle.std.proofs.Common.{◌≡◌}
use Rattle.system_images.proofs.RowsLemmas.{EndedTo}
use Rattle.system_images.proofs.imaging.ended_of.Given as goal

-- the rows of the epochs before this one are there
abbrev pub invariant-loop-epoch : goal.invariant-loop-epoch
invariant-loop-epoch g l = record {
  rows : EndedTo (g.P.Program.meaning l.core.program) l.core l.epoch l.rows;
  end : l.epoch-end ≡ l.core.logger.epoch;
  threads : l.threads ≡ l.core.inputs.threads;
}
