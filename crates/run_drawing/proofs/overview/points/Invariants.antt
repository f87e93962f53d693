use Rattle.std.proofs.Common.{◌≡◌, ◌++◌, drop}
use Rattle.run_drawing.specs.Overview.{points_from}
use Rattle.run_drawing.proofs.overview.points.Given as goal

-- with those that are left, all are there
abbrev pub invariant-loop-sample : goal.invariant-loop-sample
invariant-loop-sample l =
    l.points ++ points_from l.count l.many l.most (drop l.sample-index l.samples)
    ≡ points_from l.count l.many l.most l.samples
