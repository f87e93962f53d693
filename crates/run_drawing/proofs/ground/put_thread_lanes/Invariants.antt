use Rattle.std.proofs.Common.{◌≡◌, ◌++◌, ◌-◌}
use Rattle.run_drawing.specs.Picture.{thread_lanes}
use Rattle.run_drawing.proofs.ground.put_thread_lanes.Given as goal

-- with those that are left, all are there
abbrev pub invariant-lanes : goal.invariant-lanes
invariant-lanes l =
    l.out ++ thread_lanes l.many l.thread (l.threads - l.thread) ≡ l.fn.out ++ thread_lanes l.many 0 l.threads
