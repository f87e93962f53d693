use Rattle.std.proofs.Common.{◌≡◌, ◌++◌, drop}
use Rattle.run_drawing.specs.Overview.{epochs_from}
use Rattle.run_drawing.proofs.overview.put_epochs.Given as goal

-- with those that are left, all are there
abbrev pub invariant-loop-sample : goal.invariant-loop-sample
invariant-loop-sample l =
    l.out ++ epochs_from l.many l.before (drop l.sample-index l.samples) ≡ l.fn.out ++ epochs_from l.many 1 l.samples
