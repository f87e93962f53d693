use Rattle.std.proofs.Common.{◌≡◌, ◌+◌, drop}
use Rattle.run_drawing.specs.Slices.{moves_of}
use Rattle.run_drawing.proofs.slices.count_moves.Given as goal

-- with those that are left, all are counted
abbrev pub invariant-loop-note : goal.invariant-loop-note
invariant-loop-note l = l.count + moves_of l.thread (drop l.note-index l.notes) ≡ moves_of l.thread l.notes
