use Rattle.std.proofs.Common.{◌≡◌, ◌-◌, ◌++◌, drop}
use Rattle.wire_frames.specs.Layout.{spelled, component_fields, nonzero}
use Rattle.wire_frames.proofs.writing.put_components.Given as goal

abbrev pub invariant-loop-behind : goal.invariant-loop-behind
invariant-loop-behind l =
    l.frame ≡ spelled (component_fields (nonzero (drop (l.count - l.behind) l.components))) ++ l.initial.frame
