use Rattle.std.proofs.Common.{◌≡◌, ◌++◌}
use Rattle.run_drawing.specs.Slices.{slices_from, slices_of}
use Rattle.run_drawing.proofs.slices.take_slices.Given as goal

-- with those that are left, all are there
abbrev pub invariant-cut : goal.invariant-cut
invariant-cut l =
    l.slices ++ slices_from l.thread l.every l.left l.first l.rest ≡ slices_of l.thread l.notes

abbrev pub decreases-cut : goal.decreases-cut
decreases-cut l = l.left
