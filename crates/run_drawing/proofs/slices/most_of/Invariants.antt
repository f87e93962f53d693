use Rattle.std.proofs.Common.{◌≡◌, drop}
use Rattle.run_drawing.specs.Slices.{most_in}
use Rattle.run_drawing.proofs.slices.most_of.Given as goal

-- with those that are left, it is the greatest
abbrev pub invariant-loop-slice : goal.invariant-loop-slice
invariant-loop-slice l = most_in l.greatest (drop l.slice-index l.slices) ≡ most_in l.most l.slices
