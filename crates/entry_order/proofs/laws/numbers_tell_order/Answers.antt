use Rattle.entry_order.proofs.laws.numbers_tell_order.Goals as goal
use Rattle.entry_order.proofs.Order.{thread_by_number, touch_by_place, touch_then_read, read_then_touch}

pub returns-clause-of_thread : goal.returns-clause-of_thread
returns-clause-of_thread c = thread_by_number

pub returns-clause-of_touches : goal.returns-clause-of_touches
returns-clause-of_touches c = touch_by_place

pub returns-clause-touch_then_read : goal.returns-clause-touch_then_read
returns-clause-touch_then_read c = touch_then_read

pub returns-clause-read_then_touch : goal.returns-clause-read_then_touch
returns-clause-read_then_touch c = read_then_touch
