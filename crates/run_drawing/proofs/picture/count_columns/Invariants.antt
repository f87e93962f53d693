use Rattle.std.proofs.Common.{◌≡◌, ◌+◌, drop}
use Rattle.run_drawing.specs.Places.{columns}
use Rattle.run_drawing.proofs.picture.count_columns.Given as goal

-- with those that are left, all are counted
abbrev pub invariant-loop-note : goal.invariant-loop-note
invariant-loop-note l = l.many + columns l.before (drop l.note-index l.notes) ≡ columns 0 l.notes
