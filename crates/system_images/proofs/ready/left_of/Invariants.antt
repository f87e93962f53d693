use Rattle.system_images.proofs.ReadyLemmas.{FoundTo}
use Rattle.system_images.proofs.ready.left_of.Given as goal

-- the guide has the entry before the next number, or it is the last that was made
abbrev pub invariant-loop-number : goal.invariant-loop-number
invariant-loop-number g l = FoundTo l.core l.thread l.made l.number
