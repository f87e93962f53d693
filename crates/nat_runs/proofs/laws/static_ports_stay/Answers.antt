use Rattle.nat_runs.proofs.StaticPorts.{static_ports_stay, none_is_dropped, only_they_are_kept, moves_are_the_same}
use Rattle.nat_runs.proofs.StaticPorts.{none_starts_without_them}
use Rattle.nat_runs.proofs.StaticSources.{none_going_out_is_dropped, only_they_start}
use Rattle.nat_runs.proofs.laws.static_ports_stay.Goals as goal

pub returns-clause-stay : goal.returns-clause-stay
returns-clause-stay c = static_ports_stay

pub returns-clause-let_in : goal.returns-clause-let_in
returns-clause-let_in c = none_is_dropped

pub returns-clause-kept : goal.returns-clause-kept
returns-clause-kept c = only_they_are_kept

pub returns-clause-moves : goal.returns-clause-moves
returns-clause-moves c = moves_are_the_same

pub returns-clause-none : goal.returns-clause-none
returns-clause-none c = none_starts_without_them

pub returns-clause-let_out : goal.returns-clause-let_out
returns-clause-let_out c = none_going_out_is_dropped

pub returns-clause-starts : goal.returns-clause-starts
returns-clause-starts c = only_they_start
