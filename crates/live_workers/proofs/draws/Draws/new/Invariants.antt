use Rattle.std.proofs.Common.{◌≡◌}
use Rattle.live_workers.specs.Draws.{generators_of}
use Rattle.live_workers.proofs.draws.Draws.new.Given as goal

abbrev pub invariant-loop-thread : goal.invariant-loop-thread
invariant-loop-thread l = l.generators.items ≡ generators_of l.seed 0 l.thread
