use Rattle.std.proofs.Common.{◌≡◌, ◌++◌, take}
use Rattle.std.specs.List.{flat_map}
use Rattle.svg_text.specs.Drawing.{point_text}
use Rattle.svg_text.proofs.measuring.put_each_point.Given as goal

-- the points so far stand there
abbrev pub invariant-loop-point : goal.invariant-loop-point
invariant-loop-point l = l.out ≡ l.fn.out ++ flat_map point_text (take l.point-index l.points)
