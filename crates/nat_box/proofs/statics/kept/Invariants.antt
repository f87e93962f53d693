use Rattle.std.proofs.Common.{◌≡◌, drop}
use Rattle.nat_box.specs.Statics.{kept_behind, kept}
use Rattle.nat_box.proofs.statics.kept.Given as goal

-- those so far, and what is left
abbrev pub invariant-loop-port : goal.invariant-loop-port
invariant-loop-port l = kept_behind l.kept.items (drop l.port-index l.ports) ≡ kept l.ports
