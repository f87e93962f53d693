use Rattle.std.proofs.Common.{◌≡◌, ◌+◌, ◌≤◌, drop}
use Rattle.nat_tables.specs.Hosts.{count_of}
use Rattle.nat_tables.specs.Rows.{present}
use Rattle.nat_tables.proofs.forward.Forward.count_of.Given as goal

-- the count so far, and what the host has in the rows that are left, are the whole
abbrev pub invariant-loop-at : goal.invariant-loop-at
invariant-loop-at l =
    (l.count + count_of l.key.protocol l.key.address (present (drop l.at l.self-inside.slots))
    ≡ count_of l.key.protocol l.key.address (present l.self-inside.slots))
    × (l.count ≤ l.at)
