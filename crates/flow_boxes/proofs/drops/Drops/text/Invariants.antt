use Rattle.std.proofs.Common.{◌≡◌, ◌+◌, drop, []}
use Rattle.std.specs.String.{string_bytes}
use Rattle.flow_boxes.specs.Shown.{with_reasons}
use Rattle.flow_boxes.proofs.drops.Drops.text.Given as goal

-- what is left, behind the text so far, gives the whole
abbrev pub invariant-loop-index : goal.invariant-loop-index
invariant-loop-index l =
    with_reasons (l.index + 1) (drop l.index l.fn.self.counts) (string_bytes l.text)
    ≡ with_reasons 1 l.fn.self.counts []
