use Rattle.std.proofs.Common.{◌≡◌, drop}
use Rattle.access_log.proofs.row.drop_front.Given as goal

abbrev pub invariant-loop : goal.invariant-loop
invariant-loop g l = l.slots.items ≡ drop l.counter l.initial.slots.items
