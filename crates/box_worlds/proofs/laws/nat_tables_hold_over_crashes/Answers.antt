use Rattle.box_worlds.proofs.NatTables.{one_endpoint, one_mapping, statics_stand, keep_within, ports_stand_there}
use Rattle.box_worlds.proofs.NatTables.{settled_ports}
use Rattle.box_worlds.proofs.laws.nat_tables_hold_over_crashes.Goals as goal

pub returns-clause-one_endpoint : goal.returns-clause-one_endpoint
returns-clause-one_endpoint c = one_endpoint

pub returns-clause-one_mapping : goal.returns-clause-one_mapping
returns-clause-one_mapping c = one_mapping

pub returns-clause-static_ports : goal.returns-clause-static_ports
returns-clause-static_ports c = statics_stand

pub returns-clause-limits : goal.returns-clause-limits
returns-clause-limits c = keep_within

pub returns-clause-ports : goal.returns-clause-ports
returns-clause-ports c = ports_stand_there

pub returns-clause-settled_ports : goal.returns-clause-settled_ports
returns-clause-settled_ports c = settled_ports
