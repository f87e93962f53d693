use Rattle.std.proofs.Common.{◌≡◌, map}
use Rattle.std.specs.Map.Iter.{deref}
use Rattle.replay_guide.proofs.OrderLemmas.{name_of}
use Rattle.replay_guide.proofs.guide.names_of.Given as goal

abbrev pub invariant-loop-thread : goal.invariant-loop-thread
invariant-loop-thread l = l.order ≡ map name_of (map deref l.yielded)
