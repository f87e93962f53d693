use Rattle.std.proofs.Common.{◌≡◌, take}
use Rattle.round_order.specs.Turns.{lengths}
use Rattle.round_order.proofs.turns.count_all.Given as goal

abbrev pub invariant-loop-thread : goal.invariant-loop-thread
invariant-loop-thread l = l.counts.items ≡ lengths (take l.thread l.marks)
