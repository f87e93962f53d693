use Rattle.std.proofs.Common.{◌≡◌, ◌++◌, drop}
use Rattle.run_drawing.specs.Slices.{bars_of}
use Rattle.run_drawing.proofs.bars.put_bars.Given as goal

-- with those that are left, all are there
abbrev pub invariant-loop-slice : goal.invariant-loop-slice
invariant-loop-slice l =
    l.out ++ bars_of l.many l.most l.thread (drop l.slice-index l.slices)
    ≡ l.fn.out ++ bars_of l.many l.most l.thread l.slices
