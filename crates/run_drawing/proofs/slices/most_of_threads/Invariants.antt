use Rattle.std.proofs.Common.{◌≡◌, ◌-◌}
use Rattle.run_drawing.specs.Slices.{most_moves}
use Rattle.run_drawing.proofs.slices.most_of_threads.Given as goal

-- with those that are left, it is the greatest
abbrev pub invariant-threads : goal.invariant-threads
invariant-threads l =
    most_moves l.most l.thread (l.threads - l.thread) l.notes ≡ most_moves 0 0 l.threads l.notes
