use Rattle.std.proofs.Common.{◌≡◌, ◌++◌, drop}
use Rattle.nat_box.specs.Statics.{outside_ports}
use Rattle.nat_box.proofs.statics.outside_ports.Given as goal

-- those so far, and what is left
abbrev pub invariant-loop-port : goal.invariant-loop-port
invariant-loop-port l = l.keys.items ++ outside_ports (drop l.port-index l.ports) ≡ outside_ports l.ports
