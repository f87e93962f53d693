use Rattle.std.proofs.Common.{◌≡◌, drop}
use Rattle.run_drawing.specs.TimeChart.{last_fed}
use Rattle.run_drawing.proofs.time_curves.count_came.Given as goal

-- with those that are left, it is the last count
abbrev pub invariant-loop-note : goal.invariant-loop-note
invariant-loop-note l = last_fed l.came (drop l.note-index l.notes) ≡ last_fed 0 l.notes
