use Rattle.std.proofs.Common.{◌≡◌, ◌++◌, drop}
use Rattle.std.specs.String.{string_bytes}
use Rattle.balancer_box.specs.Shown.{further_loads}
use Rattle.balancer_box.proofs.loads.put_others.Given as goal

-- the text so far, and that of what is left, are the whole
abbrev pub invariant-loop-count : goal.invariant-loop-count
invariant-loop-count l =
    string_bytes l.text ++ further_loads (drop l.count-index l.others)
    ≡ string_bytes l.fn.text ++ further_loads l.others
