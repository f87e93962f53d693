use Rattle.std.proofs.Common.{◌≡◌, take}
use Rattle.nat_tables.specs.Rows.{present}
use Rattle.nat_tables.proofs.first_seen.FirstSeen.entries.Given as goal

-- the entries of the rows so far
abbrev pub invariant-loop-row : goal.invariant-loop-row
invariant-loop-row g l = l.entries.items ≡ present (take l.row-index l.row-items)
