use Rattle.balancer_runs.proofs.Refreshing.{only_clients_refresh, clients_refresh}
use Rattle.balancer_runs.proofs.laws.clients_refresh_their_own_connections.Goals as goal

pub returns-clause-only : goal.returns-clause-only
returns-clause-only c = only_clients_refresh

pub returns-clause-each : goal.returns-clause-each
returns-clause-each c = clients_refresh
