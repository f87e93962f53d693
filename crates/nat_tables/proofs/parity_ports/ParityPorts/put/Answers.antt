use Rattle.std.proofs.Common.{arith}
use Rattle.nat_tables.proofs.GroupLemmas.{groups_with, groups_few}
use Rattle.nat_tables.proofs.parity_ports.ParityPorts.put.Goals as goal

pub overflow_add-self : goal.overflow_add-self
overflow_add-self c =
    let few = groups_few c.self.inside.count c.self.inside.groups.items c.self.invariant in omega arith

pub returns-then-put : goal.returns-then-put
returns-then-put c =
    rw (← c.self.view_is) (groups_with c.self.inside.groups.items c.index_mut.result.now c.put.new.self c.args.port
    c.args.first c.from-index.result c.self.invariant.each c.self.invariant.all (omega arith) c.requires.parity
    c.from-index.ensures c.index_mut.ensures.value c.put.ensures.ports)

pub returns-else-put : goal.returns-else-put
returns-else-put c =
    rw (← c.self.view_is) (groups_with c.self.inside.groups.items c.index_mut.result.now c.put.new.self c.args.port
    c.args.first c.from-index.result c.self.invariant.each c.self.invariant.all (omega arith) c.requires.parity
    c.from-index.ensures c.index_mut.ensures.value c.put.ensures.ports)
