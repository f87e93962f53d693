use Rattle.std.proofs.Common.{◌≡◌, ◌++◌, drop}
use Rattle.run_drawing.specs.Picture.{bands_from}
use Rattle.run_drawing.proofs.ground.put_bands.Given as goal

-- with those that are left, all are there
abbrev pub invariant-loop-note : goal.invariant-loop-note
invariant-loop-note l =
    l.out ++ bands_from l.threads l.column l.before (drop l.note-index l.notes)
    ≡ l.fn.out ++ bands_from l.threads 0 0 l.notes
