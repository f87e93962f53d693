use Rattle.std.proofs.Common.{◌≡◌, ◌+◌, ◌≤◌, ◌-◌}
use Rattle.wire_frames.specs.Places.{bits_set}
use Rattle.wire_frames.proofs.stamp.bits_set.Given as goal

abbrev pub invariant-loop : goal.invariant-loop
invariant-loop l = record {
  left : l.count + bits_set (16 - l.counter) l.rest ≡ bits_set 16 l.mask;
  most : l.count ≤ l.counter;
}
