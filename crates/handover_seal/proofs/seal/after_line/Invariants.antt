use Rattle.std.proofs.Common.{◌≡◌, length}
use Rattle.handover_seal.specs.Seals.{after_line}
use Rattle.handover_seal.proofs.seal.after_line.Given as goal

-- no line feed has come yet
abbrev pub invariant-loop-rest : goal.invariant-loop-rest
invariant-loop-rest l = after_line l.text ≡ after_line l.rest

abbrev pub decreases-loop-rest : goal.decreases-loop-rest
decreases-loop-rest l = length l.rest
