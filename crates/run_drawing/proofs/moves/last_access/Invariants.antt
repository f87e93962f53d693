use Rattle.std.proofs.Common.{◌≡◌, drop, None}
use Rattle.run_drawing.specs.Marks.{last_access}
use Rattle.run_drawing.proofs.moves.last_access.Given as goal

-- with those that are left, the last is there
abbrev pub invariant-loop-cell : goal.invariant-loop-cell
invariant-loop-cell l = last_access l.var l.found (drop l.cell-index l.cells) ≡ last_access l.var None l.cells
