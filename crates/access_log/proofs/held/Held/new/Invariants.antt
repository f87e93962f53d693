use Rattle.std.proofs.Common.{◌≡◌, replicate}
use Rattle.access_log.specs.Held.{fresh_lane}
use Rattle.access_log.proofs.held.Held.new.Given as goal

abbrev pub invariant-loop : goal.invariant-loop
invariant-loop l = l.lanes.items ≡ replicate l.counter fresh_lane
