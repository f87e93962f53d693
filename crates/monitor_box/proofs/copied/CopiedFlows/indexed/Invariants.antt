use Rattle.std.proofs.Common.{◌≡◌, take}
use Rattle.monitor_box.proofs.copied.CopiedFlows.indexed.Given as goal

-- the flows so far
abbrev pub invariant-loop-at : goal.invariant-loop-at
invariant-loop-at l = l.indexed.entries ≡ take l.at l.fn.self
