use Rattle.std.proofs.Common.{◌≡◌, ◌+◌, take}
use Rattle.std.specs.List.{sum_by}
use Rattle.nat_tables.specs.Placing.{word_count}
use Rattle.nat_tables.proofs.port_group.find_word.Given as goal

-- what is left of the index, behind the words so far
abbrev pub invariant-loop-index : goal.invariant-loop-index
invariant-loop-index l = l.at ≡ sum_by word_count (take l.index l.words) + l.left
