use Rattle.std.proofs.Common.{◌≡◌, drop}
use Rattle.run_drawing.specs.TimeChart.{latest as latest_of}
use Rattle.run_drawing.proofs.time_curves.latest.Given as goal

-- with those that are left, it is the latest
abbrev pub invariant-loop-time : goal.invariant-loop-time
invariant-loop-time l = latest_of l.first l.latest (drop l.time-index l.times) ≡ latest_of l.first l.least l.times
