use Rattle.entry_order.proofs.laws.stamps_are_joins.Goals as goal
use Rattle.entry_order.proofs.StampLemmas.{stamp_is}
use Rattle.entry_order.proofs.Parts.{stamp_covers, stamp_stays}
use Rattle.entry_order.proofs.Joins.{stamp_there, stamp_unique, stamp_components, components_stamp, join_is_stamp}
use Rattle.entry_order.proofs.Weights.{stamp_within}

pub returns-clause-there : goal.returns-clause-there
returns-clause-there c = stamp_there

pub returns-clause-one : goal.returns-clause-one
returns-clause-one c = stamp_unique

pub returns-clause-components : goal.returns-clause-components
returns-clause-components c = λ log e s. (stamp_components log e s, components_stamp log e s)

pub returns-clause-covers : goal.returns-clause-covers
returns-clause-covers c = λ log e f s good st here. (stamp_covers log e f s good st here, st.above f here)

pub returns-clause-stays : goal.returns-clause-stays
returns-clause-stays c = stamp_stays

pub returns-clause-joined : goal.returns-clause-joined
returns-clause-joined c = join_is_stamp

pub returns-clause-joined_all : goal.returns-clause-joined_all
returns-clause-joined_all c = stamp_is

pub returns-clause-within : goal.returns-clause-within
returns-clause-within c = stamp_within
