use Rattle.nat_runs.proofs.Inbound.{inbound_changes_no_table}
use Rattle.nat_runs.proofs.laws.inbound_packets_change_no_table.Goals as goal

pub returns : goal.returns
returns c = inbound_changes_no_table
