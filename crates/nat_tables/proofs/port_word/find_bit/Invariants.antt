use Rattle.std.proofs.Common.{◌≡◌, ◌+◌, take}
use Rattle.std.specs.List.{sum_by}
use Rattle.nat_tables.specs.Ports.{one_if}
use Rattle.nat_tables.specs.Placing.{word_bits}
use Rattle.nat_tables.proofs.port_word.find_bit.Given as goal

-- what is left of the index, behind the bits so far
abbrev pub invariant-loop-bit : goal.invariant-loop-bit
invariant-loop-bit l = l.at ≡ sum_by one_if (take l.bit (word_bits l.word)) + l.left
