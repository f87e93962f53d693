use Rattle.std.proofs.Common.{◌≡◌, ◌*◌, ◌^◌, ◌≤◌, take}
use Rattle.access_log.specs.Held.{held_count}
use Rattle.access_log.proofs.held.count_held.Given as goal

abbrev pub invariant-loop-lane : goal.invariant-loop-lane
invariant-loop-lane l = record {
  counted : l.count ≡ held_count (take l.lane-index l.lanes);
  small : l.count ≤ l.lane-index * 2 ^ 56;
}
