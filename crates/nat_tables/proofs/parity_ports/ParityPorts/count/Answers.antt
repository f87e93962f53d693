use Rattle.std.proofs.Common.{sym}
use Rattle.nat_tables.proofs.GroupLemmas.{groups_length, groups_few}
use Rattle.nat_tables.proofs.parity_ports.ParityPorts.count.Goals as goal

pub returns-clause-ports : goal.returns-clause-ports
returns-clause-ports c = rw (← c.self.view_is)
    (λ first. sym (groups_length c.self.inside.count first c.self.inside.groups.items c.self.invariant))

pub returns-clause-few : goal.returns-clause-few
returns-clause-few c = groups_few c.self.inside.count c.self.inside.groups.items c.self.invariant
