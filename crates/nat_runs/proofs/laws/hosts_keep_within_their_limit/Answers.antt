use Rattle.nat_runs.proofs.Limits.{hosts_keep_within, touches_without_limit, tables_without_limit}
use Rattle.nat_runs.proofs.FullHosts.{draws_had_room}
use Rattle.nat_runs.proofs.laws.hosts_keep_within_their_limit.Goals as goal

pub returns-clause-within : goal.returns-clause-within
returns-clause-within c = hosts_keep_within

pub returns-clause-touches : goal.returns-clause-touches
returns-clause-touches c = touches_without_limit

pub returns-clause-tables : goal.returns-clause-tables
returns-clause-tables c = tables_without_limit

pub returns-clause-room : goal.returns-clause-room
returns-clause-room c = draws_had_room
