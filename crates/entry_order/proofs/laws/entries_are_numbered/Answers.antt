use Rattle.entry_order.proofs.laws.entries_are_numbered.Goals as goal
use Rattle.entry_order.proofs.Order.{number_within, entry_there, same_number, place_within, touch_there, same_place}
use Rattle.entry_order.proofs.Order.{read_within}

pub returns-clause-within : goal.returns-clause-within
returns-clause-within c = number_within

pub returns-clause-there : goal.returns-clause-there
returns-clause-there c = entry_there

pub returns-clause-once : goal.returns-clause-once
returns-clause-once c = same_number

pub returns-clause-place_within : goal.returns-clause-place_within
returns-clause-place_within c = place_within

pub returns-clause-place_there : goal.returns-clause-place_there
returns-clause-place_there c = touch_there

pub returns-clause-place_once : goal.returns-clause-place_once
returns-clause-place_once c = same_place

pub returns-clause-read_within : goal.returns-clause-read_within
returns-clause-read_within c = read_within
