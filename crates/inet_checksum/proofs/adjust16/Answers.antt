use Rattle.std.proofs.Common.{arith}
use Rattle.inet_checksum.proofs.RecomputedSums.{equation_3_recomputes}
use Rattle.inet_checksum.proofs.adjust16.Goals as goal

pub returns-clause-recomputed : goal.returns-clause-recomputed
returns-clause-recomputed c =
    rw c.fold.ensures
    (equation_3_recomputes c.args.checksum c.args.old c.args.new _ (omega arith) (omega arith) (omega arith))
