use Rattle.std.proofs.Common.{◌≡◌, ◌++◌, ◌∷◌, drop, length}
use Rattle.run_drawing.specs.Overview.{first_sample, samples_from}
use Rattle.run_drawing.proofs.overview.take_samples.Given as goal

-- with those that are left, all are there
abbrev pub invariant-loop-index : goal.invariant-loop-index
invariant-loop-index l =
    l.samples.items ++ samples_from l.every (length l.notes) l.index (drop l.index l.notes)
    ≡ first_sample ∷ samples_from l.every (length l.notes) 0 l.notes
