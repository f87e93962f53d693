use Rattle.std.proofs.Common.{◌≡◌, ◌++◌, drop}
use Rattle.noted_runs.specs.Noting.{threads_of}
use Rattle.noted_runs.proofs.picture.noting.movers_of.Given as goal

-- with those that are left, all are there
abbrev pub invariant-loop-index : goal.invariant-loop-index
invariant-loop-index l =
    l.movers ++ threads_of (drop l.index l.moves) ≡ threads_of (drop l.from l.moves)
