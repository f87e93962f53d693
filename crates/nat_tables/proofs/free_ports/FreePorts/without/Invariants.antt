use Rattle.std.proofs.Common.{◌≡◌, ◌-◌}
use Rattle.nat_tables.specs.Ports.{ports_without}
use Rattle.nat_tables.proofs.free_ports.FreePorts.without.Given as goal

-- the ports below the number that are not of the list are there
abbrev pub invariant-loop-number : goal.invariant-loop-number
invariant-loop-number l = l.ports ≡ ports_without l.out l.protocol l.low (l.number - l.low)
