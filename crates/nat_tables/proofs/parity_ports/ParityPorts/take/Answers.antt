use Rattle.std.proofs.Common.{◌∙◌, ◌≡◌, ◌<◌, length, arith, sym}
use Rattle.nat_tables.specs.Placing.{groups_ports}
use Rattle.nat_tables.proofs.GroupLemmas.{groups_length, groups_index, groups_removed}
use Rattle.nat_tables.proofs.parity_ports.ParityPorts.take.Goals as goal

pub find_group-index-requires : goal.find_group-index-requires
find_group-index-requires c =
    let long : length (groups_ports c.args.first c.self.inside.groups.items) ≡ c.self.inside.count =
    groups_length c.self.inside.count c.args.first c.self.inside.groups.items c.self.invariant in
    let within : c.args.at < length (groups_ports c.args.first c.self.inside.groups.items) =
    rw (← c.self.view_is) at c.requires.within in
    let total = c.self.invariant.total in
    rw c.deref.ensures.value (omega arith)

pub returns-clause-port : goal.returns-clause-port
returns-clause-port c =
    let is = rw c.deref.ensures.value at c.find_group-index.ensures in
    rw (← c.self.view_is) (c.take-port.ensures.port
    ∙ sym (groups_index c.self.inside.groups.items c.index_mut.result.now c.args.first c.args.at
    c.find_group-index.result.0 c.find_group-index.result.1 c.self.invariant.each is c.index_mut.ensures.value))

pub returns-clause-others : goal.returns-clause-others
returns-clause-others c =
    let is = rw c.deref.ensures.value at c.find_group-index.ensures in
    rw (← c.self.view_is) (groups_removed c.self.inside.groups.items c.index_mut.result.now c.take-port.new.self
    c.args.first c.args.at c.find_group-index.result.0 c.find_group-index.result.1 c.self.invariant.each is
    c.index_mut.ensures.value c.take-port.ensures.others)
