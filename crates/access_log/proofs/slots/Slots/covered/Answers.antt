use Rattle.access_log.proofs.slots.Slots.covered.Goals as goal
use Rattle.access_log.proofs.SlotLemmas.{slotted_numbers}
use Rattle.access_log.proofs.MemberLemmas.{slotted_rising}
use Rattle.access_log.specs.Rows.{row_slots}

pub returns-clause-numbers : goal.returns-clause-numbers
returns-clause-numbers c = rw (← c.self.view_is) (slotted_numbers c.self.inside.covered
    (row_slots c.self.inside.contiguous) c.self.inside.out_of_order.entries c.self.invariant)

pub returns-clause-rising : goal.returns-clause-rising
returns-clause-rising c =
    rw (← c.self.view_is) (slotted_rising c.self.inside.covered (row_slots c.self.inside.contiguous)
    c.self.inside.out_of_order.entries c.self.invariant c.len-ordered.ensures.ordered)
