use Rattle.std.proofs.Common.{◌≡◌, drop, slice_get}
use Rattle.nat_tables.specs.Rows.{present}
use Rattle.nat_tables.proofs.first_seen.FirstSeen.entry.Given as goal

-- the entry is the one at this index of those that are left
abbrev pub invariant-loop-row : goal.invariant-loop-row
invariant-loop-row g l =
    slice_get (present l.row-items) l.fn.index ≡ slice_get (present (drop l.row-index l.row-items)) l.left
