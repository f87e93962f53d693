use Rattle.box_program.specs.Count.{count_meaning}
use Rattle.box_runs.proofs.OnceEach.{sends_once}
use Rattle.box_runs.proofs.BoxMoves.{count_went, count_sends}
use Rattle.box_runs.proofs.Numbers.{packets_carry, count_is_touches}
use Rattle.box_runs.proofs.laws.packets_carry_their_count.Goals as goal

pub returns-clause-carried : goal.returns-clause-carried
returns-clause-carried c = packets_carry

pub returns-clause-once : goal.returns-clause-once
returns-clause-once c = sends_once count_meaning count_went count_sends

pub returns-clause-counted : goal.returns-clause-counted
returns-clause-counted c = count_is_touches
