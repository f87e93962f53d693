use Rattle.std.proofs.Common.{arith}
use Rattle.std.proofs.lemmas.Nat.{and_mask}
use Rattle.inet_checksum.proofs.RecomputedSums.{equation_3_twice_recomputes}
use Rattle.inet_checksum.proofs.adjust32.Goals as goal

pub returns-clause-recomputed : goal.returns-clause-recomputed
returns-clause-recomputed c =
    let old_low = and_mask c.args.old 16 in
    let new_low = and_mask c.args.new 16 in
    rw c.adjust16.ensures.value (equation_3_twice_recomputes c.args.checksum c.args.old c.args.new
    c.adjust16-high.result _ (omega arith) (omega arith) c.adjust16-high.ensures.value (omega arith))
