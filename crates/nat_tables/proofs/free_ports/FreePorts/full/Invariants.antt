use Rattle.std.proofs.Common.{◌≡◌, ◌-◌}
use Rattle.nat_tables.specs.Ports.{ports_from, no_ports}
use Rattle.nat_tables.proofs.free_ports.FreePorts.full.Given as goal

-- all ports below the number are there
abbrev pub invariant-loop-number : goal.invariant-loop-number
invariant-loop-number l = l.ports ≡ ports_from l.low (l.number - l.low) no_ports
