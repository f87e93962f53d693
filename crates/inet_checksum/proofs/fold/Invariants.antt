use Rattle.std.proofs.Common.{◌≡◌}
use Rattle.inet_checksum.specs.OnesComplement.{ones_value}
use Rattle.inet_checksum.proofs.fold.Given as goal

abbrev pub invariant-loop-total : goal.invariant-loop-total
invariant-loop-total l = ones_value l.total ≡ ones_value l.initial.total

abbrev pub decreases-loop-total : goal.decreases-loop-total
decreases-loop-total l = l.total
