use Rattle.std.proofs.Common.{take}
use Rattle.noted_runs.specs.Filling.{AreFilled}
use Rattle.noted_runs.proofs.trace.filling.fill_rows.Given as goal

-- the rows so far are filled
abbrev pub invariant-loop-earlier : goal.invariant-loop-earlier
invariant-loop-earlier l =
    AreFilled l.gone.departures l.gone.seen.places.items l.gone.seen.lacks.items l.inputs
    (take l.earlier l.turns) l.rows
