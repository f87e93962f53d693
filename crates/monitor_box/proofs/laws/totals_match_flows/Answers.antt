use Rattle.monitor_box.proofs.MatchedTotals.{run_matches, rest_is_sum, packets_counted, bytes_counted}
use Rattle.monitor_box.proofs.laws.totals_match_flows.Goals as goal

pub returns-clause-packets : goal.returns-clause-packets
returns-clause-packets c = λ tables threads inputs steps some few h.
    (run_matches _ _ _ packets_counted tables threads inputs steps some few h).1

pub returns-clause-bytes : goal.returns-clause-bytes
returns-clause-bytes c =
    λ tables threads inputs steps some few h. (run_matches _ _ _ bytes_counted tables threads inputs steps some few h).1

pub returns-clause-packets_at_rest : goal.returns-clause-packets_at_rest
returns-clause-packets_at_rest c =
    λ tables threads inputs steps some few h. rest_is_sum _ _ _ packets_counted tables threads inputs steps some few h

pub returns-clause-bytes_at_rest : goal.returns-clause-bytes_at_rest
returns-clause-bytes_at_rest c =
    λ tables threads inputs steps some few h. rest_is_sum _ _ _ bytes_counted tables threads inputs steps some few h
