use Rattle.std.proofs.Common.{◌≡◌, ◌++◌, ◌∷◌, drop, length}
use Rattle.run_drawing.specs.Overview.{first_sample}
use Rattle.run_drawing.specs.TimeChart.{came_from}
use Rattle.run_drawing.proofs.time_curves.take_came.Given as goal

-- with those that are left, all are there
abbrev pub invariant-loop-index : goal.invariant-loop-index
invariant-loop-index l =
    l.samples.items ++ came_from l.every (length l.times) l.first_time l.latest l.index (drop l.index l.times)
    ≡ first_sample ∷ came_from l.every (length l.times) l.first_time 0 0 l.times
