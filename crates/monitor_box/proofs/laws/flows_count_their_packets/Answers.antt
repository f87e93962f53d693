use Rattle.monitor_box.proofs.MatchedTotals.{packets_counted, bytes_counted}
use Rattle.monitor_box.proofs.CountedPackets.{counts_flow, counts_flow_at_rest}
use Rattle.monitor_box.proofs.laws.flows_count_their_packets.Goals as goal

pub returns-clause-packets : goal.returns-clause-packets
returns-clause-packets c = counts_flow _ _ _ packets_counted

pub returns-clause-bytes : goal.returns-clause-bytes
returns-clause-bytes c = counts_flow _ _ _ bytes_counted

pub returns-clause-packets_at_rest : goal.returns-clause-packets_at_rest
returns-clause-packets_at_rest c = counts_flow_at_rest _ _ _ packets_counted (λ count is. is.0)

pub returns-clause-bytes_at_rest : goal.returns-clause-bytes_at_rest
returns-clause-bytes_at_rest c = counts_flow_at_rest _ _ _ bytes_counted (λ count is. is.1)
