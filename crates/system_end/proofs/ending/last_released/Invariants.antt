use Rattle.std.proofs.Common.{◌≡◌, ℕ, ◌<◌, length}
use Rattle.std.specs.Prelude.{slice_index}
use Rattle.dup_filter.specs.Numbers.{numbers, IsGreatest}
use Rattle.system_end.proofs.ending.last_released.Given as goal

-- the numbers of the threads before this one are there
abbrev pub invariant-loop-thread : goal.invariant-loop-thread
invariant-loop-thread l = record {
  long : length l.last.items ≡ l.thread;
  are : (t : ℕ) → t < l.thread → IsGreatest (numbers l.released t) (slice_index l.last.items t);
}
