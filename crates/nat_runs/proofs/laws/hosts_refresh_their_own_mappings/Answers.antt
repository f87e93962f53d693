use Rattle.nat_runs.proofs.Refreshing.{hosts_refresh, sent_refresh}
use Rattle.nat_runs.proofs.laws.hosts_refresh_their_own_mappings.Goals as goal

pub returns-clause-hosts : goal.returns-clause-hosts
returns-clause-hosts c = hosts_refresh

pub returns-clause-sent : goal.returns-clause-sent
returns-clause-sent c = sent_refresh
