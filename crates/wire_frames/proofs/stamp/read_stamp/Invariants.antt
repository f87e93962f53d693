use Rattle.std.proofs.Common.{◌≡◌, ◌+◌, ◌*◌, ◌^◌, ◌<◌, ◌≤◌, ◌-◌, ◌++◌, ◌==◌, ◌||◌, not, length, take, drop, replicate}
use Rattle.wire_frames.specs.Layout.{mask_of}
use Rattle.wire_frames.specs.Places.{bits_set, components}
use Rattle.wire_frames.proofs.stamp.read_stamp.Given as goal

abbrev pub invariant-loop-thread : goal.invariant-loop-thread
invariant-loop-thread l = record {
  all : length l.components ≡ 16;
  read : take l.thread l.components ++ components (16 - l.thread) l.rest (drop l.place l.bytes)
      ≡ components 16 l.mask l.bytes;
  unread : drop l.thread l.components ≡ replicate (16 - l.thread) 0;
  named : l.has_zero
      || not (mask_of (components (16 - l.thread) l.rest (drop l.place l.bytes)) == l.rest)
      ≡ not (mask_of (components 16 l.mask l.bytes) == l.mask);
  fits : l.rest < 2 ^ (16 - l.thread);
  room : l.place + 8 * bits_set (16 - l.thread) l.rest ≤ length l.bytes;
}
