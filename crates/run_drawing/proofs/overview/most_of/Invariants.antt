use Rattle.std.proofs.Common.{◌≡◌, drop}
use Rattle.run_drawing.specs.Overview.{most_from}
use Rattle.run_drawing.proofs.overview.most_of.Given as goal

-- with those that are left, it is the greatest
abbrev pub invariant-loop-note : goal.invariant-loop-note
invariant-loop-note l = most_from l.most (drop l.note-index l.notes) ≡ most_from 0 l.notes
