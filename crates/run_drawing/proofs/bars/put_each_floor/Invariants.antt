use Rattle.std.proofs.Common.{◌≡◌, ◌++◌, ◌-◌}
use Rattle.run_drawing.specs.Slices.{floors_from}
use Rattle.run_drawing.proofs.bars.put_each_floor.Given as goal

-- with those that are left, all are there
abbrev pub invariant-floors : goal.invariant-floors
invariant-floors l =
    l.out ++ floors_from l.most l.thread (l.threads - l.thread) l.notes
    ≡ l.fn.out ++ floors_from l.most 0 l.threads l.notes
