use Rattle.std.proofs.Common.{◌≡◌, [], drop}
use Rattle.nat_box.specs.Starting.{mapped_all}
use Rattle.nat_box.proofs.nat.NatBox.mappings_of.Given as goal

-- the table so far, and what is left
abbrev pub invariant-loop-port : goal.invariant-loop-port
invariant-loop-port l =
    mapped_all l.self.settings l.var (drop l.port-index l.ports) l.table
    ≡ mapped_all l.self.settings l.var l.ports []
