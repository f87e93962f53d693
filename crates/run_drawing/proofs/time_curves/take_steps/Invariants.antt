use Rattle.std.proofs.Common.{◌≡◌, ◌++◌, drop}
use Rattle.run_drawing.specs.TimeChart.{steps_from, steps_of}
use Rattle.run_drawing.proofs.time_curves.take_steps.Given as goal

-- with those that are left, all are there
abbrev pub invariant-loop-note : goal.invariant-loop-note
invariant-loop-note l =
    l.samples.items ++ steps_from l.times l.before (drop l.note-index l.notes) ≡ steps_of l.times l.notes
