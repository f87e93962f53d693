use Rattle.round_order.specs.Turns.{HasLatest}
use Rattle.round_order.proofs.turns.latest_thread.Given as goal

abbrev pub invariant-loop-thread : goal.invariant-loop-thread
invariant-loop-thread l = HasLatest l.marks l.left l.thread l.latest
