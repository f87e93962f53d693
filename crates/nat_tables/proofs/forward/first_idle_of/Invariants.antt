use Rattle.std.proofs.Common.{◌≡◌, ◌-◌, drop, length}
use Rattle.nat_tables.specs.Hosts.{first_idle_of}
use Rattle.nat_tables.specs.Idling.{AreLiveUntil}
use Rattle.nat_tables.specs.Rows.{present}
use Rattle.nat_tables.proofs.forward.first_idle_of.Given as goal

-- it is the first one of the rows that are left
abbrev pub invariant-loop-start : goal.invariant-loop-start
invariant-loop-start l =
    AreLiveUntil l.live l.slots
    × (first_idle_of l.key l.now (present (drop l.start l.slots)) ≡ first_idle_of l.key l.now (present l.slots))

abbrev pub decreases-loop-start : goal.decreases-loop-start
decreases-loop-start l = length l.slots - l.start
