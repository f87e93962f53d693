use Rattle.std.proofs.Common.{◌≡◌, ◌+◌, ◌≤◌, length, drop}
use Rattle.wire_frames.specs.Layout.{nonzero}
use Rattle.wire_frames.proofs.stamp.count_nonzero.Given as goal

abbrev pub invariant-loop-component : goal.invariant-loop-component
invariant-loop-component l = record {
  left : l.count + length (nonzero (drop l.component-index l.component-items)) ≡ length (nonzero l.component-items);
  most : l.count ≤ l.component-index;
}
