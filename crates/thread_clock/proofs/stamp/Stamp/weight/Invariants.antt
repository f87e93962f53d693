use Rattle.std.proofs.Common.{◌≡◌, ◌*◌, ◌-◌, ◌^◌, ◌≤◌, sum, take, length}
use Rattle.thread_clock.proofs.stamp.Stamp.weight.Given as goal

abbrev pub invariant-loop-component : goal.invariant-loop-component
invariant-loop-component l = record {
  summed : l.weight ≡ sum (take l.component-index l.component-items);
  small : l.weight ≤ l.component-index * (2 ^ 32 - 1);
  all : length l.component-items ≡ 16;
}
