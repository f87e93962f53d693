use Rattle.std.proofs.Common.{◌≡◌, ◌-◌, drop}
use Rattle.wire_frames.specs.Layout.{mask_of}
use Rattle.wire_frames.proofs.stamp.mask_of.Given as goal

abbrev pub invariant-loop-behind : goal.invariant-loop-behind
invariant-loop-behind l = l.mask ≡ mask_of (drop (l.threads - l.behind) l.components)
