use Rattle.std.proofs.Common.{◌≡◌, ◌+◌, sum, length}
use Rattle.inet_checksum.specs.OnesComplement.{words, ones_value, ones_sum}
use Rattle.inet_checksum.proofs.sum.Given as goal

-- the total so far and the words left have the value of all words
abbrev pub invariant-loop-rest : goal.invariant-loop-rest
invariant-loop-rest l = ones_value (l.total + sum (words l.rest)) ≡ ones_sum (words l.bytes)

abbrev pub decreases-loop-rest : goal.decreases-loop-rest
decreases-loop-rest l = length l.rest

abbrev pub invariant-loop-rest-2 : goal.invariant-loop-rest-2
invariant-loop-rest-2 l = ones_value (l.total + sum (words l.rest)) ≡ ones_sum (words l.bytes)

abbrev pub decreases-loop-rest-2 : goal.decreases-loop-rest-2
decreases-loop-rest-2 l = length l.rest
