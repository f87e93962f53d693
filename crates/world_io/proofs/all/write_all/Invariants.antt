use Rattle.std.proofs.Common.{◌-◌, ◌≤◌, length, take}
use Rattle.world_io.specs.Stream.{GoesOn}
use Rattle.world_io.proofs.all.write_all.Given as goal

-- the first `done` bytes were appended
abbrev pub invariant-loop-done : goal.invariant-loop-done
invariant-loop-done g l =
    let sink = g.K.Sink in
    record {
      writes : sink.writes l.fn.sink (take l.done l.bytes) l.sink;
      within : l.done ≤ length l.bytes;
      goes_on : GoesOn sink.faults sink.healthy l.fn.sink l.sink;
    }

abbrev pub decreases-loop-done : goal.decreases-loop-done
decreases-loop-done g l = length l.bytes - l.done
