use Rattle.std.proofs.Common.{◌≡◌, take, map, Some}
use Rattle.nat_tables.specs.Rows.{present}
use Rattle.nat_tables.proofs.first_seen.FirstSeen.swept.Given as goal

-- the entries of the rows so far
abbrev pub invariant-loop-row : goal.invariant-loop-row
invariant-loop-row g l = l.swept ≡ map (λ entry. Some entry) (present (take l.row-index l.row-items))
