use Rattle.std.proofs.Common.{◌≡◌, length, take}
use Rattle.thread_clock.proofs.counts.EntryCounts.narrowed.Given as goal

abbrev pub invariant-loop-thread : goal.invariant-loop-thread
invariant-loop-thread l = record {
  all : length l.components ≡ 16;
  same : take l.thread l.components ≡ take l.thread l.self-inside.components;
}
