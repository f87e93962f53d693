use Rattle.std.proofs.Common.{◌≡◌, length}
use Rattle.input_files.specs.Texts.{whole_lines}
use Rattle.input_files.proofs.texts.whole_lines.Given as goal

-- what was passed is in no line that ends
abbrev pub invariant-loop-rest : goal.invariant-loop-rest
invariant-loop-rest l = whole_lines l.fn.text ≡ whole_lines l.rest

abbrev pub decreases-loop-rest : goal.decreases-loop-rest
decreases-loop-rest l = length l.rest
