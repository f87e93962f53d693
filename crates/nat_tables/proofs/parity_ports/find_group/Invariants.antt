use Rattle.std.proofs.Common.{◌≡◌, ◌+◌, take}
use Rattle.std.specs.List.{sum_by}
use Rattle.nat_tables.specs.Placing.{group_count}
use Rattle.nat_tables.proofs.parity_ports.find_group.Given as goal

-- what is left of the index, behind the groups so far
abbrev pub invariant-loop-index : goal.invariant-loop-index
invariant-loop-index l = l.at ≡ sum_by group_count (take l.index l.groups) + l.left
