use Rattle.std.proofs.Common.{◌≡◌, length}
use Rattle.bench.proofs.held.hold_entries.Given as goal

-- the set has two lanes
abbrev pub invariant-loop-number : goal.invariant-loop-number
invariant-loop-number l = length l.held ≡ 2
